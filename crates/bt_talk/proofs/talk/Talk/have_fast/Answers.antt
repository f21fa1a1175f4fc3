use Rattle.std.proofs.Common.{◌≡◌, ◌∙◌, ◌&&◌, Bool, true, false, Option, sym, ap}
use Rattle.bt_intro.specs.Listening.{handshake_of}
use Rattle.bt_jobs.specs.Others.{first_of}
use Rattle.bt_wire.specs.declared.handshake.Handshake.{Handshake}
use Rattle.bt_talk.specs.Unanswered.{has_fast}
use Rattle.bt_talk.proofs.talk.Talk.have_fast.Goals as goal

first : (s t : Bool) (x x' : Option Handshake) → s ≡ t → s ≡ has_fast x → x ≡ x' → has_fast x' ≡ t
first s t x x' is e f = sym (ap (λ (o : Option Handshake). has_fast o) f) ∙ (sym e ∙ is)

both : (s t : Bool) (x x' y y' : Option Handshake) → s ≡ true → s ≡ has_fast x → x ≡ x' → t ≡ has_fast y → y ≡ y' → t ≡ (has_fast x' && has_fast y')
both s t x x' y y' is e f g h =
    g ∙ (ap (λ (o : Option Handshake). has_fast o) h ∙ ap (λ (b : Bool). b && has_fast y') (sym (first s true x x' is e f)))

neither : (s : Bool) (x x' y' : Option Handshake) → s ≡ false → s ≡ has_fast x → x ≡ x' → s ≡ (has_fast x' && has_fast y')
neither s x x' y' is e f = is ∙ ap (λ (b : Bool). b && has_fast y') (sym (first s false x x' is e f))

pub returns-then-has_fast : goal.returns-then-has_fast
returns-then-has_fast c = λ a b i.
    let of_a = c.handshake-a.ensures a b i in
    let of_b = c.handshake-b.ensures a b i in
    record {
      of_a = of_a.0;
      of_b = of_b.0;
      a_said = of_a.1;
      b_said = of_b.1;
      is = both c.has_fast.result c.has_fast-then-has_fast.result c.handshake-a.result _ c.handshake-b.result _ c.if-has_fast.true c.has_fast.ensures of_a.2
          c.has_fast-then-has_fast.ensures of_b.2;
    }

pub returns-else-has_fast : goal.returns-else-has_fast
returns-else-has_fast c = λ a b i.
    let of_a = c.handshake-a.ensures a b i in
    let of_b = c.handshake-b.ensures a b i in
    record {
      of_a = of_a.0;
      of_b = of_b.0;
      a_said = of_a.1;
      b_said = of_b.1;
      is = neither c.has_fast.result c.handshake-a.result _ (first_of handshake_of of_b.0.items) c.if-has_fast.false c.has_fast.ensures
          of_a.2;
    }
