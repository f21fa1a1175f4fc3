-- What is known of a side after a segment.
use Rattle.std.proofs.Common.{◌≡◌, ℕ, Bool, List, [], ◌∷◌, ◌++◌, append-nil, refl, sym, ap, ◌∙◌, subst, inl, inr, if◌then◌else◌}
use Rattle.bt_tcp.specs.Heard.{Took}
use Rattle.bt_flow.specs.declared.flow.Flow.{Flow}
use Rattle.bt_flow.specs.declared.flow.Given.{Given}
use Rattle.bt_flow.specs.Flows.{IsFlow, FlowTakes, FlowTakesNext, HasTaken, sent_at, with_segment}
use Rattle.bt_talk.specs.Pasts.{Past, IsFlowOf, Adds}

-- the past after a segment, whose bytes were appended to these
pub record More (g : Given) (opening : Bool) (p : Past) (flow : Flow) (given : List ℕ) (flow' : Flow) (given' : List ℕ) : Type 0 where
  pub past : Past
  pub is : IsFlowOf past flow'
  pub adds : Adds g opening p flow past flow'
  pub out : given' ≡ given ++ adds.more

by_taken : (g : Given) (opening : Bool) (p : Past) (flow : Flow) (given : List ℕ) (flow' : Flow) (given' : List ℕ) → (t : FlowTakes g flow given flow' given')
    → HasTaken g p.heard p.segs p.out flow t.more flow' → More g opening p flow given flow' given'
by_taken g opening p flow given flow' given' t (inl h) = record {
  past = record {
    heard = p.heard ++ Took (sent_at g h.0) ∷ [];
    segs = with_segment p.segs h.0 g.payload.now;
    out = p.out ++ t.more;
    front = if opening then p.out ++ t.more else p.front;
  };
  is = h.1;
  adds = record { more = t.more; out = refl; front = refl; lost = t.none; added = inl (h.0, refl, refl, h.2) };
  out = t.is;
}
by_taken g opening p flow given flow' given' t (inr (inl h)) = record {
  past = record {
    heard = p.heard ++ Took (sent_at g h.0) ∷ [];
    segs = p.segs;
    out = p.out ++ t.more;
    front = if opening then p.out ++ t.more else p.front;
  };
  is = subst (λ l. IsFlow (p.heard ++ Took (sent_at g h.0) ∷ []) p.segs l flow') (sym (ap (λ l. p.out ++ l) h.3 ∙ append-nil p.out)) h.1;
  adds = record { more = t.more; out = refl; front = refl; lost = t.none; added = inr (inl (h.0, refl, refl, h.2, h.3, h.4)) };
  out = t.is;
}
by_taken g opening p flow given flow' given' t (inr (inr h)) = record {
  past = record { heard = p.heard; segs = p.segs; out = p.out ++ t.more; front = if opening then p.out ++ t.more else p.front };
  is = subst (λ l. IsFlow p.heard p.segs l flow') (sym (ap (λ l. p.out ++ l) h.1 ∙ append-nil p.out)) h.2;
  adds = record { more = t.more; out = refl; front = refl; lost = t.none; added = inr (inr (h.0, h.1, refl, refl, h.3, h.4)) };
  out = t.is;
}

pub more_by : (g : Given) (opening : Bool) (p : Past) (flow : Flow) (given : List ℕ) (flow' : Flow) (given' : List ℕ) → IsFlowOf p flow
    → FlowTakes g flow given flow' given' → More g opening p flow given flow' given'
more_by g opening p flow given flow' given' f t = by_taken g opening p flow given flow' given' t (t.taken p.heard p.segs p.out f)

-- as above, if its bytes come in two parts
pub more_next : (g : Given) (opening : Bool) (p : Past) (flow : Flow) (fresh later : List ℕ) (flow' : Flow) (later' : List ℕ) → IsFlowOf p flow
    → (t : FlowTakesNext g flow fresh later flow' later') → More g opening p flow [] flow' (fresh ++ t.rest)
more_next g opening p flow fresh later flow' later' f t = more_by g opening p flow [] flow' (fresh ++ t.rest) f (t.more [])
