-- The last that a side had sent when the connection was closed.
use Rattle.std.proofs.Common.{◌≡◌, ◌∙◌, ℕ, ◌+◌, ◌-◌, ◌≤◌, min, List, [], ◌++◌, append-nil, drop, take}
use Rattle.std.proofs.Common.{length, Option, Some, None, refl, sym, ap, subst, arith, length-append, length-take, inl, inr}
use Rattle.std.proofs.lemmas.Bool.{cases_lt}
use Rattle.std.proofs.lemmas.List.{drop-take, drop_all, take-append-le, take_all}
use Rattle.bt_ext.specs.declared.ids.Rules.TheVariants.{Free}
use Rattle.bt_intro.specs.declared.settling.Receiver.{Receiver}
use Rattle.bt_judge.proofs.Both.{free_now}
use Rattle.bt_judge.specs.declared.judge.Judge.{Judge}
use Rattle.bt_judge.specs.Judges.{AreJudged, under}
use Rattle.bt_judge.specs.Readings.{IsStanding}
use Rattle.bt_rows.specs.declared.noted.Last.TheVariants.{Nothing, Item as LastItem, Refused}
use Rattle.bt_rows.specs.declared.said.Said.{Said}
use Rattle.bt_wire.specs.declared.context.Own.{Own}
use Rattle.bt_wire.specs.declared.item.Item.{Item}
use Rattle.bt_wire.specs.declared.item.Refusal.{Refusal}
use Rattle.bt_wire.specs.Streams.{Outcome, IsVerdict}
use Rattle.bt_talk.specs.declared.stage.Cut.{Cut}
use Rattle.bt_talk.specs.Cuts.{IsLastBy, IsLastIn, IsCutBy, IsCutNow, IsWithin, cut_length}
use Rattle.bt_talk.specs.Watching.{IsLast}

standing : (own : Own) (b : List ℕ) (v : Outcome) (o : Option Refusal) → IsVerdict own b v → IsStanding own b o → v.refusal ≡ o
standing own b v None is h = h v is
standing own b v (Some r) is h = h [] v (subst (λ (l : List ℕ). IsVerdict own l v) (sym (append-nil b)) is)

last_by : (o : Option Refusal) (r : Refusal) (xs : List (ℕ × Item)) → o ≡ Some r → IsLastBy o xs (Refused r)
last_by o r xs e = subst (λ (k : Option Refusal). IsLastBy k xs (Refused r)) (sym e) refl

item_by : (o : Option Refusal) (xs ys : List (ℕ × Item)) (said : Said) → o ≡ None → ys ≡ xs → IsLast xs (Some said) → IsLastBy o ys (LastItem said)
item_by o xs ys said e f i =
    subst (λ (k : Option Refusal). IsLastBy k ys (LastItem said)) (sym e) (subst (λ (l : List (ℕ × Item)). IsLast l (Some said)) (sym f) i)

nothing_by : (o : Option Refusal) (xs ys : List (ℕ × Item)) → o ≡ None → ys ≡ xs → xs ≡ [] → IsLastBy o ys Nothing
nothing_by o xs ys e f i = subst (λ (k : Option Refusal). IsLastBy k ys Nothing) (sym e) (f ∙ i)

-- The stream is refused.
pub last_refused : (own : Own) (b : List ℕ) (xs ys : List (ℕ × Item)) (judge : Judge) (o : Option Refusal) (r : Refusal) → AreJudged own b xs ys judge
    → IsStanding (under Free own) b o → o ≡ Some r → IsLastIn own b (Refused r)
last_refused own b xs ys judge o r j h e =
    let now = free_now own b xs ys judge j in
    record {
      verdict = now.now;
      is = now.is;
      by = last_by now.now.refusal r now.now.items (standing (under Free own) b now.now o now.is h ∙ e);
    }

pub last_item : (own : Own) (b : List ℕ) (xs ys : List (ℕ × Item)) (judge : Judge) (o : Option Refusal) (said : Said) → AreJudged own b xs ys judge
    → IsStanding (under Free own) b o → o ≡ None → IsLast xs (Some said) → IsLastIn own b (LastItem said)
last_item own b xs ys judge o said j h e i =
    let now = free_now own b xs ys judge j in
    record {
      verdict = now.now;
      is = now.is;
      by = item_by now.now.refusal xs now.now.items said (standing (under Free own) b now.now o now.is h ∙ e) now.items i;
    }

pub last_nothing : (own : Own) (b : List ℕ) (xs ys : List (ℕ × Item)) (judge : Judge) (o : Option Refusal) → AreJudged own b xs ys judge
    → IsStanding (under Free own) b o → o ≡ None → xs ≡ [] → IsLastIn own b Nothing
last_nothing own b xs ys judge o j h e i =
    let now = free_now own b xs ys judge j in
    record {
      verdict = now.now;
      is = now.is;
      by = nothing_by now.now.refusal xs now.now.items (standing (under Free own) b now.now o now.is h ∙ e) now.items i;
    }

-- ---- further bytes

pub within_more : (n : Option ℕ) (out more out' : List ℕ) → out' ≡ out ++ more → IsWithin n out → IsWithin n out'
within_more None out more out' e i = tt
within_more (Some n) out more out' e i = omega (arith, i, ap length e, length-append out more)

take_same : (n : ℕ) (out more out' : List ℕ) → out' ≡ out ++ more → n ≤ length out → take n out' ≡ take n out
take_same n out more out' e le = ap (take n) e ∙ take-append-le n out more le

pub cut_none : (receiver : Option Receiver) (front out : List ℕ) (cut : Option Cut) → receiver ≡ None → IsCutNow receiver front out cut
cut_none None front out None e = tt
cut_none None front out (Some cut) e = tt
cut_none (Some r) front out cut e = absurd (cc)

pub cut_more : (receiver receiver' : Option Receiver) (front front' out more out' : List ℕ) (cut : Option Cut) → receiver' ≡ receiver → front' ≡ front
    → out' ≡ out ++ more → IsWithin (cut_length cut) out → IsCutNow receiver front out cut → IsCutNow receiver' front' out' cut
cut_more receiver receiver' front front' out more out' None e f g le i = tt
cut_more receiver receiver' front front' out more out' (Some cut) e f g le i =
    subst (λ (r : Option Receiver). IsCutBy r front' (take cut.length out') cut.last) (sym e)
    (subst (λ (l : List ℕ). IsCutBy receiver l (take cut.length out') cut.last) (sym f)
    (subst (λ (l : List ℕ). IsCutBy receiver front l cut.last) (sym (take_same cut.length out more out' g le)) i))

-- ---- the first bytes

-- of bytes from a place on
pub drop_first : (start n : ℕ) (out : List ℕ) → drop start (take n out) ≡ take (n - start) (drop start out)
drop_first start n out =
    elim (cases_lt n start) [
      | inl lt ↦
          let none : length (take n out) ≤ start = omega (arith, lt, length-take n out) in
          let zero : n - start ≡ 0 = omega (arith, lt) in
          drop_all start (take n out) none ∙ sym (ap (λ (k : ℕ). take k (drop start out)) zero)
      | inr le ↦
          let sum : n ≡ start + (n - start) = omega (arith, le) in
          ap (λ (k : ℕ). drop start (take k out)) sum ∙ drop-take start (n - start) out
    ]

-- as many of some bytes, or all
pub take_most : (n : ℕ) (l : List ℕ) → take (min n (length l)) l ≡ take n l
take_most n l =
    elim (cases_lt (length l) n) [
      | inl lt ↦
          let all : min n (length l) ≡ length l = omega (arith, lt) in
          let fits : length l ≤ n = omega (arith, lt) in
          ap (λ (k : ℕ). take k l) all ∙ take_all (length l) l (omega arith) ∙ sym (take_all n l fits)
      | inr le ↦ let same : min n (length l) ≡ n = omega (arith, le) in ap (λ (k : ℕ). take k l) same
    ]
