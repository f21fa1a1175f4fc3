-- Handling a piece of bytes.
use Rattle.std.proofs.Common.{◌≡◌, ℕ, ◌+◌, ◌-◌, ◌≤◌, inl, inr, true, false, List, [], ◌∷◌, length, take, drop, Result, Ok, refl, sym, ap, subst, ◌∙◌, arith}
use Rattle.std.proofs.Common.{length-drop}
use Rattle.std.proofs.lemmas.Bool.{cases_lt}
use Rattle.std.proofs.lemmas.List.{drop-drop, take_all}
use Rattle.bt_feed.specs.Feeds.{taken}
use Rattle.bt_feed.proofs.FeedLaws.{least_taken}
use Rattle.bt_end.specs.Halves.{HalfState, received, stopping, IsTurned, IsHandled, AreHandled}
use Rattle.bt_end.specs.declared.end.Turn.TheVariants.{Handled, Idle}
use Rattle.bt_end.specs.declared.end.TurnError.{TurnError}

-- the bytes after the first n
pub rest_is : (bytes : List ℕ) (n : ℕ) → take (length bytes - n) (drop n bytes) ≡ drop n bytes
rest_is bytes n = take_all (length bytes - n) (drop n bytes) (omega (arith, length-drop n bytes))

-- with n bytes used, and this end left, whatever is handled of the rest is handled of the whole
pub record IsUnderWay (a : HalfState) (bytes : List ℕ) (n : ℕ) (now : HalfState) : Type 0 where
  pub within : n ≤ length bytes
  pub follows : (k : ℕ) (stop : Result Unit TurnError) (b : HalfState) → IsHandled now (drop n bytes) k stop b → IsHandled a bytes (n + k) stop b

along : (a b : HalfState) (x y : List ℕ) (m n : ℕ) (stop : Result Unit TurnError) → x ≡ y → m ≡ n → IsHandled a x m stop b → IsHandled a y n stop b
along a b x y m n stop e f h = subst (λ (z : List ℕ). IsHandled a z n stop b) e (subst (λ (k : ℕ). IsHandled a x k stop b) f h)

-- a round that handled an item
pub goes_on : {a now : HalfState} (next : HalfState) {bytes rest : List ℕ} {n t : ℕ} → rest ≡ drop n bytes → t ≡ taken now.feed rest → t ≤ length rest
    → IsUnderWay a bytes n now → IsTurned (received now rest) (Ok Handled) next →
    IsUnderWay a bytes (n + t) next
goes_on {a} {now} next {bytes} {rest} {n} {t} r e le u h = record {
  within = omega (arith, le, ap (length {A = ℕ}) r, length-drop n bytes, u.within);
  follows = λ k stop b later.
      let same : drop (n + t) bytes ≡ drop (taken now.feed rest) rest = sym (drop-drop t n bytes) ∙ ap (drop t) (sym r) ∙ ap (λ (x : ℕ). drop x rest) e in
      let one : IsHandled now rest (t + k) stop b = (
        next ∷ later.0,
        (h, (k, ap (λ (x : ℕ). x + k) e, subst (λ (x : List ℕ). AreHandled later.0 next x k stop b) same later.1)),
      ) in
      let all = u.follows (t + k) stop b (subst (λ (x : List ℕ). IsHandled now x (t + k) stop b) r one) in
      along a b bytes bytes (n + (t + k)) (n + t + k) stop refl (omega arith) all;
}

-- the last round handles nothing
pub stops : {a now next : HalfState} {bytes rest : List ℕ} {n t : ℕ} (stop : Result Unit TurnError) → rest ≡ drop n bytes → t ≡ taken now.feed rest
    → IsUnderWay a bytes n now → IsTurned (received now rest) (stopping stop) next → IsHandled a bytes (n + t) stop next
stops {now} {next} {rest} {t} stop r e u h =
    let last : IsHandled now rest t stop next = ([], (e, h)) in
    u.follows t stop next (subst (λ (x : List ℕ). IsHandled now x t stop next) r last)

-- ---- why it stopped

pub idle_used : (a b : HalfState) (bytes rest : List ℕ) (n t : ℕ) → rest ≡ drop n bytes → t ≡ taken a.feed rest → t ≤ length rest → n ≤ length bytes
    → IsTurned (received a rest) (Ok Idle) b → n + t ≡ length bytes
idle_used a b bytes rest n t r e le within h =
    elim (cases_lt t (length rest)) [
      | inl l ↦ let c : true ≡ false = sym ((least_taken a.feed rest).2 (omega (arith, e))) ∙ h.0.1 in absurd cc
      | inr g ↦ omega (arith, ap (length {A = ℕ}) r, length-drop n bytes)
    ]
