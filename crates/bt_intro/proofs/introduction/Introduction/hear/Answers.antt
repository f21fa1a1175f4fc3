use Rattle.std.proofs.Common.{◌≡◌, ◌∙◌, ℕ, List, ◌++◌, ◌-◌, Some, Option, drop, take, length, refl, sym, ap, subst}
use Rattle.std.specs.Box.{with_value}
use Rattle.bt_intro.specs.declared.introduction.Introduction.{Introduction}
use Rattle.bt_intro.specs.declared.voice.Voice.{Voice}
use Rattle.bt_intro.specs.Hearing.{Held, IsVoiced, IsVoiceOf}
use Rattle.bt_intro.proofs.Searching.{whole}
use Rattle.bt_intro.proofs.Hearing.{voiced, voiced_more, voiced_first, unvoiced, rest_is, from_start}
use Rattle.bt_intro.proofs.introduction.Introduction.hear.Goals as goal
use Rattle.bt_intro.proofs.introduction.Introduction.hear.Goals.{in-Some-voice+in_ok-hear, in_default-voice+in_default-find_hello}
use Rattle.bt_intro.proofs.introduction.Introduction.hear.Goals.{in_default-voice+in-Some-find_hello+in_ok-voice+in_ok-new+in-Some-1}
use Rattle.bt_intro.proofs.introduction.Introduction.hear.Goals.{in_default-voice+in-Some-find_hello+in_ok-voice+in_ok-new+in-None-1}

by_voice : (front : List ℕ) (i : Introduction) (o : Option Held) (j : Introduction) → j ≡ record { heard = i.heard; voice = o }
    → IsVoiced front o → IsVoiced front j.voice
by_voice front i o j e h = subst (λ (k : Introduction). IsVoiced front k.voice) (sym e) h

-- it has memory of its own now
in_box : (front : List ℕ) (start : ℕ) (voice : Voice) (held : Held) → held.value ≡ voice
    → IsVoiceOf (take (length front - start) (drop start front)) voice × (voice.start ≡ start)
    → IsVoiceOf (take (length front - start) (drop start front)) held.value × (held.value.start ≡ start)
in_box front start voice held e i =
    subst (λ (v : Voice). IsVoiceOf (take (length front - start) (drop start front)) v × (v.start ≡ start)) (sym e) i

pub returns-clause-ok : goal.returns-clause-ok
returns-clause-ok c = λ old more h parts.
    let lookup = c.in-Some.ensures.lookup in
    let front = c.args.front.now in
    let i = c.args.self.now in
    record {
      all = refl;
      voiced = elim c.match-self.branch [
        | in-Some-voice+in_ok-hear w ↦
            let held : Held = w.in-Some-voice.voice in
            let u : Voice = w.deref_mut.result.now in
            let v = voiced old i held u w.deref_mut.ensures.value h w.in-Some-voice.is in
            let now : Held = with_value held w.hear.new.self in
            let rest : c.in-Some.new.now ≡ more = rest_is front old more c.in-Some.new.now i.heard parts h.all (lookup.0.2 ∙ whole front i.heard lookup.0.0) in
            let from : drop u.start front ≡ drop u.start old ++ c.in-Some.new.now = ap (drop u.start) parts ∙ from_start old more u.start v.0
            ∙ ap (λ l. drop u.start old ++ l) (sym rest) in
            let more_heard : IsVoiceOf (drop u.start old ++ more) w.hear.new.self =
            subst (λ (l : List ℕ). IsVoiceOf (drop u.start old ++ l) w.hear.new.self) rest (w.in_ok-hear.ensures.heard (drop u.start old) v.1 from) in
            by_voice front i (Some now) c.match-self.self w.self-is (subst (λ (l : List ℕ). IsVoiced l (Some now)) (sym parts)
            (voiced_more old more u now v.0 w.in_ok-hear.ensures.start more_heard))
        | in_default-voice+in-Some-find_hello+in_ok-voice+in_ok-new+in-Some-1 w ↦
            let start = w.in-Some-find_hello.start in
            let made = in_box front start w.in_ok-voice.voice w.in_ok-new.field-0 w.in_ok-new.ensures.ok w.in_ok-voice.ensures in
            by_voice front i (Some w.in_ok-new.field-0) c.match-self.self w.self-is
            (voiced_first front old more i w.saturating_sub.result start w.in_ok-new.field-0 h w.in_default-voice.is parts
            w.saturating_sub.ensures w.in-Some-find_hello.ensures made.1 made.0)
        | in_default-voice+in-Some-find_hello+in_ok-voice+in_ok-new+in-None-1 w ↦
            let start = w.in-Some-find_hello.start in
            let made = in_box front start w.in_ok-voice.voice w.in_ok-new.field-0 w.in_ok-new.ensures.ok w.in_ok-voice.ensures in
            by_voice front i (Some w.in_ok-new.field-0) c.match-self.self w.self-is
            (voiced_first front old more i w.saturating_sub.result start w.in_ok-new.field-0 h w.in_default-voice.is parts
            w.saturating_sub.ensures w.in-Some-find_hello.ensures made.1 made.0)
        | in_default-voice+in_default-find_hello w ↦
            by_voice front i i.voice c.match-self.self w.self-is (subst (λ (o : Option Held). IsVoiced front o) (sym w.in_default-voice.is)
            (unvoiced front old more i w.saturating_sub.result h w.in_default-voice.is parts w.saturating_sub.ensures w.in_default-find_hello.ensures))
      ];
    }
