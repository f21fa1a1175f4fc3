-- What is known of a front that was heard.
use Rattle.std.proofs.Common.{◌≡◌, ◌∙◌, ℕ, ◌+◌, ◌-◌, ◌≤◌, true, List, [], ◌∷◌, ◌++◌, length, take, drop, Option, Some, None, refl, sym, ap, subst, arith, inl}
use Rattle.std.specs.Prelude.{min, ◌^◌, nat_le}
use Rattle.std.proofs.lemmas.Bool.Decides.{nat_tests}
use Rattle.std.proofs.Math.Seq.{drop-append_seam}
use Rattle.std.proofs.lemmas.List.{drop-append-le}
use Rattle.bt_wire.specs.declared.item.Item.{Item}
use Rattle.bt_wire.specs.declared.item.Refusal.{Refusal}
use Rattle.bt_wire.specs.Streams.{Outcome, IsVerdict, awaiting}
use Rattle.bt_judge.specs.Readings.{IsStanding}
use Rattle.bt_jobs.specs.Others.{reader_of_other}
use Rattle.bt_intro.specs.declared.introduction.Introduction.{Introduction}
use Rattle.bt_intro.specs.declared.voice.Voice.{Voice}
use Rattle.bt_intro.specs.declared.voice.Reader.{Reader}
use Rattle.bt_intro.specs.declared.voice.Reader.TheVariants.{Open, Settled}
use Rattle.bt_intro.specs.Hellos.{IsFirstHello, HasNoHello, IsFirstFrom}
use Rattle.bt_intro.specs.Listening.{IsHeard}
use Rattle.bt_intro.specs.Hearing.{IsSaid, IsReadBy, IsVoiceOf, Held, IsVoiced, IsHeardOf}
use Rattle.bt_intro.proofs.Searching.{whole, hello_fits, first_more, start_more}

-- without a handshake nothing is said
pub silent : (front : List ℕ) (i : Introduction) → IsHeardOf front i → i.voice ≡ None → IsSaid front (awaiting None [])
silent front i h e = inl (subst (λ (o : Option Held). IsVoiced front o) e h.voiced, refl)

-- the outcome of the bytes of a voice, and what its listener heard
pub record Told (b : List ℕ) (voice : Voice) : Type 0 where
  pub now : Outcome
  pub is : IsVerdict reader_of_other b now
  pub heard : IsHeard now.items voice.listener

told_read : (b : List ℕ) (items : List (ℕ × Item)) (r : Reader) → IsReadBy b items r → (v : Outcome) × IsVerdict reader_of_other b v × (v.items ≡ items)
told_read b items (Open reading) j = (j.now, j.is, j.items)
told_read b items (Settled refused) j = (j.0, j.1, j.2)

pub told_by : (b : List ℕ) (voice : Voice) → IsVoiceOf b voice → Told b voice
told_by b voice h =
    let t = told_read b h.items voice.reader h.read in
    record { now = t.0; is = t.1; heard = subst (λ (xs : List (ℕ × Item)). IsHeard xs voice.listener) (sym t.2) h.heard }

pub voiced : (front : List ℕ) (i : Introduction) (held : Held) (v : Voice) → v ≡ held.value → IsHeardOf front i → i.voice ≡ Some held
    → IsFirstHello front v.start × IsVoiceOf (drop v.start front) v
voiced front i held v same h e =
    subst (λ (k : Voice). IsFirstHello front k.start × IsVoiceOf (drop k.start front) k) (sym same)
    (subst (λ (o : Option Held). IsVoiced front o) e h.voiced)

append_nil : (xs : List ℕ) → xs ++ [] ≡ xs
append_nil [] = refl
append_nil (x ∷ xs) = ap (λ zs. x ∷ zs) (append_nil xs)

-- the standing refusal is that of the verdict
pub standing : (b : List ℕ) (r : Option Refusal) (v : Outcome) → IsVerdict reader_of_other b v → IsStanding reader_of_other b r → v.refusal ≡ r
standing b None v is h = h v is
standing b (Some r) v is h = h [] v (subst (λ (l : List ℕ). IsVerdict reader_of_other l v) (sym (append_nil b)) is)

-- the test of a count that stays at its greatest value
pub awaited_by : (n m : ℕ) → n ≡ min m (2 ^ 64 - 1) → nat_le 1001 n ≡ true → 1001 ≤ m
awaited_by n m e h = let le : 1001 ≤ n = grind (arith, nat_tests) in omega arith

pub is_awaited : (n m : ℕ) → n ≡ min m (2 ^ 64 - 1) → 1001 ≤ m → nat_le 1001 n ≡ true
is_awaited n m e h = let le : 1001 ≤ n = omega arith in grind (arith, nat_tests)

pub rest_is : (front old more new : List ℕ) (n : ℕ) → front ≡ old ++ more → n ≡ length old → new ≡ drop n front → new ≡ more
rest_is front old more new n parts size is =
    is ∙ ap (λ (l : List ℕ). drop n l) parts ∙ ap (λ (k : ℕ). drop k (old ++ more)) size ∙ drop-append_seam old more

-- the bytes from the handshake on, and those that follow
pub from_start : (front more : List ℕ) (start : ℕ) → IsFirstHello front start → drop start (front ++ more) ≡ drop start front ++ more
from_start front more start first =
    let fits : start + 20 ≤ length front = hello_fits front start first.here in
    drop-append-le start front more (omega arith)

-- what was heard, and the bytes that follow
pub voiced_more : (front more : List ℕ) (old : Voice) (new : Held) → IsFirstHello front old.start → new.value.start ≡ old.start
    → IsVoiceOf (drop old.start front ++ more) new.value → IsVoiced (front ++ more) (Some new)
voiced_more front more old new first same h =
    let P : ℕ → Type 0 = λ k. IsFirstHello (front ++ more) k × IsVoiceOf (drop k (front ++ more)) new.value in
    subst P (sym same) (
      first_more front more old.start first,
      subst (λ (l : List ℕ). IsVoiceOf l new.value) (sym (from_start front more old.start first)) h,
    )

-- a handshake is found in what is new
pub voiced_first : (front old more : List ℕ) (i : Introduction) (low start : ℕ) (new : Held) → IsHeardOf old i → i.voice ≡ None → front ≡ old ++ more
    → low ≡ i.heard - 19 → IsFirstFrom front low (Some start) → new.value.start ≡ start
    → IsVoiceOf (take (length front - start) (drop start front)) new.value → IsVoiced front (Some new)
voiced_first front old more i low start new h none parts size first same voice =
    let silence : HasNoHello old = subst (λ (o : Option Held). IsVoiced old o) none h.voiced in
    let from : low ≡ length old - 19 = size ∙ ap (λ (n : ℕ). n - 19) h.all in
    let here : IsFirstFrom (old ++ more) (length old - 19) (Some start) =
    subst (λ (n : ℕ). IsFirstFrom (old ++ more) n (Some start)) from (subst (λ (l : List ℕ). IsFirstFrom l low (Some start)) parts first) in
    let found : IsFirstHello front start = subst (λ (l : List ℕ). IsFirstHello l start) (sym parts) (start_more old more (Some start) silence here) in
    let fits : start + 20 ≤ length front = hello_fits front start found.here in
    let within : start ≤ length front = omega arith in
    let all : IsVoiceOf (drop start front) new.value = subst (λ (l : List ℕ). IsVoiceOf l new.value) (whole front start within) voice in
    subst (λ (k : ℕ). IsFirstHello front k × IsVoiceOf (drop k front) new.value) (sym same) (found, all)

-- none is found
pub unvoiced : (front old more : List ℕ) (i : Introduction) (low : ℕ) → IsHeardOf old i → i.voice ≡ None → front ≡ old ++ more
    → low ≡ i.heard - 19 → IsFirstFrom front low None → IsVoiced front None
unvoiced front old more i low h none parts size first =
    let silence : HasNoHello old = subst (λ (o : Option Held). IsVoiced old o) none h.voiced in
    let from : low ≡ length old - 19 = size ∙ ap (λ (n : ℕ). n - 19) h.all in
    let here : IsFirstFrom (old ++ more) (length old - 19) None =
    subst (λ (n : ℕ). IsFirstFrom (old ++ more) n None) from (subst (λ (l : List ℕ). IsFirstFrom l low None) parts first) in
    subst HasNoHello (sym parts) (start_more old more None silence here)
