-- Lemmas on what a capture tells of one direction.
use Rattle.std.proofs.Common.{◌≡◌, ℕ, ◌^◌, List, [], ◌∷◌, ◌++◌, Option, refl, sym, ap, subst, ◌∙◌, arith}
use Rattle.std.specs.Prelude.{Some, None, unwrap_or, is_some, ◌||◌}
use Rattle.bt_tcp.specs.declared.halves.Half.{Half}
use Rattle.bt_tcp.specs.Places.{IsNearest}
use Rattle.std.specs.Option.{option_or}
use Rattle.bt_tcp.specs.Heard.{Heard, Took, Acked, first, latest, raised, greatest, some_number, number_of, place_of, near_after}
use Rattle.bt_tcp.specs.Heard.{segment_end, captured_end, fin_place, acked_place, syn_number, acked_syn, zero_of, opening_of, end_of, IsPlaced}
use Rattle.bt_tcp.specs.Halves.{IsHalf, HearsMore}

pub or-none : (a : Option ℕ) → option_or a None ≡ a
or-none (Some x) = refl
or-none None = refl

or-assoc : (a b c : Option ℕ) → option_or (option_or a b) c ≡ option_or a (option_or b c)
or-assoc (Some x) b c = refl
or-assoc None b c = refl

pub first-push : (f : Heard → Option ℕ) (heard : List Heard) (e : Heard) → first f (heard ++ e ∷ []) ≡ option_or (first f heard) (f e)
first-push f [] e = or-none (f e)
first-push f (d ∷ heard) e = ap (option_or (f d)) (first-push f heard e) ∙ sym (or-assoc (f d) (first f heard) (f e))

pub latest-push : (f : Heard → Option ℕ) (heard : List Heard) (e : Heard) → latest f (heard ++ e ∷ []) ≡ option_or (f e) (latest f heard)
latest-push f [] e = sym (or-none (f e))
latest-push f (d ∷ heard) e = ap (λ o. option_or o (f d)) (latest-push f heard e) ∙ or-assoc (f e) (latest f heard) (f d)

raised_swap : (a b : Option ℕ) (n : ℕ) → raised a (raised b n) ≡ raised b (raised a n)
raised_swap None b n = refl
raised_swap (Some x) None n = refl
raised_swap (Some x) (Some y) n = omega arith

pub greatest-push : (least : ℕ) (f : Heard → Option ℕ) (heard : List Heard) (e : Heard)
    → greatest least f (heard ++ e ∷ []) ≡ raised (f e) (greatest least f heard)
greatest-push least f [] e = refl
greatest-push least f (d ∷ heard) e = ap (raised (f d)) (greatest-push least f heard e) ∙ raised_swap (f d) (f e) (greatest least f heard)

-- a list that is longer by one in front
near-more : (heard : List Heard) (near : ℕ) (d : Heard) → raised (segment_end d) (greatest near segment_end heard) ≡ greatest (near_after near d) segment_end heard
near-more [] near d = refl
near-more (e ∷ heard) near d =
    raised_swap (segment_end d) (segment_end e) (greatest near segment_end heard) ∙ ap (raised (segment_end e)) (near-more heard near d)

pub placed-push : (zero_number near : ℕ) (heard : List Heard) (e : Heard) → IsPlaced zero_number near heard
    → IsNearest zero_number (greatest near segment_end heard) (number_of e) (place_of e) → IsPlaced zero_number near (heard ++ e ∷ [])
placed-push z near [] e p n = (n, tt)
placed-push z near (d ∷ heard) e p n = (
  p.0,
  placed-push z (near_after near d) heard e p.1 (subst (λ m. IsNearest z m (number_of e) (place_of e)) (near-more heard near d) n),
)

zero_case : (o : Option ℕ) (n z : ℕ) → option_or o (Some n) ≡ Some z → unwrap_or o n ≡ z
zero_case (Some x) n z e = cc
zero_case None n z e = cc

placed_none : (heard : List Heard) (zero_number : ℕ) → zero_of heard ≡ None → IsPlaced zero_number (2 ^ 40) heard
placed_none [] z h = tt
placed_none (e ∷ heard) z h = absurd (cc)

placed_before : (heard : List Heard) (o : Option ℕ) (zero_number number : ℕ) → zero_of heard ≡ o → ((z : ℕ) → zero_of heard ≡ Some z
    → IsPlaced z (2 ^ 40) heard)
    → IsPlaced (unwrap_or o number) (2 ^ 40) heard
placed_before heard (Some z) zero_number number e p = p z e
placed_before heard None zero_number number e p = placed_none heard number e

-- One more stands at the place nearest to where the segments end.
more_placed : (heard : List Heard) (half : Half) (e : Heard) → IsHalf heard half
    → IsNearest (unwrap_or half.zero (number_of e)) half.end (number_of e) (place_of e)
    → (zero_number : ℕ) → zero_of (heard ++ e ∷ []) ≡ Some zero_number → IsPlaced zero_number (2 ^ 40) (heard ++ e ∷ [])
more_placed heard half e h n z q =
    let u : unwrap_or half.zero (number_of e) ≡ z = ap (λ o. unwrap_or o (number_of e)) h.zero
    ∙ zero_case (zero_of heard) (number_of e) z (sym (first-push some_number heard e) ∙ q) in
    let p : IsPlaced (unwrap_or half.zero (number_of e)) (2 ^ 40) heard = placed_before heard half.zero z (number_of e) (sym h.zero) h.placed in
    let m : IsNearest z (end_of heard) (number_of e) (place_of e) = subst (λ x. IsNearest x (end_of heard) (number_of e) (place_of e)) u (subst
    (λ l. IsNearest (unwrap_or half.zero (number_of e)) l (number_of e) (place_of e)) h.end n) in
    placed-push z (2 ^ 40) heard e (subst (λ x. IsPlaced x (2 ^ 40) heard) u p) m

-- What is kept after one more, if this is so of each part of it.
pub record IsAfter (half : Half) (e : Heard) (half' : Half) : Type 0 where
  pub zero : half'.zero ≡ option_or half.zero (some_number e)
  pub opening : half'.opening ≡ option_or (syn_number e) (option_or half.opening (acked_syn e))
  pub «end» : half'.end ≡ raised (segment_end e) half.end
  pub acked : half'.acked ≡ raised (acked_place e) half.acked
  pub is_acked : half'.is_acked ≡ (half.is_acked || is_some (acked_place e))
  pub fin : half'.fin ≡ option_or (fin_place e) half.fin
  pub high : half'.high ≡ raised (captured_end e) half.high
  pub nearest : IsNearest (unwrap_or half.zero (number_of e)) half.end (number_of e) (place_of e)

either : (a b : Option ℕ) → is_some (option_or a b) ≡ (is_some a || is_some b)
either (Some x) b = refl
either None b = refl

opening-push : (heard : List Heard) (e : Heard) → opening_of (heard ++ e ∷ []) ≡ option_or (syn_number e) (option_or (opening_of heard) (acked_syn e))
opening-push heard e =
    let l = latest syn_number heard in
    let f = first acked_syn heard in
    ap (λ o. option_or o (first acked_syn (heard ++ e ∷ []))) (latest-push syn_number heard e)
    ∙ ap (option_or (option_or (syn_number e) l)) (first-push acked_syn heard e)
    ∙ or-assoc (syn_number e) l (option_or f (acked_syn e))
    ∙ ap (option_or (syn_number e)) (sym (or-assoc l f (acked_syn e)))

pub hears-more : (half : Half) (e : Heard) (half' : Half) → IsAfter half e half' → HearsMore half e half'
hears-more half e half' a heard h = record {
  zero = a.zero ∙ ap (λ o. option_or o (some_number e)) h.zero ∙ sym (first-push some_number heard e);
  opening = a.opening ∙ ap (λ o. option_or (syn_number e) (option_or o (acked_syn e))) h.opening ∙ sym (opening-push heard e);
  «end» = a.end ∙ ap (raised (segment_end e)) h.end ∙ sym (greatest-push (2 ^ 40) segment_end heard e);
  acked = a.acked ∙ ap (raised (acked_place e)) h.acked ∙ sym (greatest-push (2 ^ 40) acked_place heard e);
  is_acked = a.is_acked ∙ ap (λ b. b || is_some (acked_place e)) h.is_acked
      ∙ sym (ap is_some (first-push acked_place heard e) ∙ either (first acked_place heard) (acked_place e));
  fin = a.fin ∙ ap (option_or (fin_place e)) h.fin ∙ sym (latest-push fin_place heard e);
  high = a.high ∙ ap (raised (captured_end e)) h.high ∙ sym (greatest-push 0 captured_end heard e);
  placed = more_placed heard half e h a.nearest;
}

-- Before anything was captured no SYN is known.
pub no-base : (heard : List Heard) → zero_of heard ≡ None → opening_of heard ≡ None
no-base [] h = refl
no-base (d ∷ heard) h = absurd (cc)
