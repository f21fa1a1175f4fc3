use Rattle.std.proofs.Common.{◌≡◌, ◌∙◌, ℕ, Bool, true, false, not, length, is_some, refl, ap}
use Rattle.std.specs.Prelude.{◌&&◌, ◌||◌, ◌==◌, nat_lt}
use Rattle.bt_remarks.specs.Said.{is_same}
use Rattle.bt_talk.specs.declared.course.Course.{Course}
use Rattle.bt_talk.specs.Courses.{course_after, course_of}
use Rattle.bt_talk.specs.Talks.{grown_with, of_side}
use Rattle.bt_talk.proofs.Marked.{closed_by, grown_by, strays_by}
use Rattle.bt_talk.proofs.talk.Talk.go_on.Goals as goal
use Rattle.bt_talk.proofs.talk.Talk.go_on.Goals.{then-not-segment, else-not-segment, then-has_data, else-has_data, then-begins, else-begins}

pub returns-clause-shut : goal.returns-clause-shut
returns-clause-shut c = λ k.
    let was = course_of k c.args.self.now.courses in
    ap (λ (x : Course). x.is_closed) (c.take.ensures.after k) ∙ closed_by (is_same c.args.side k) (course_after c.args.flags c.args.stray _ c.args.when was) was

pub returns-clause-strays : goal.returns-clause-strays
returns-clause-strays c = λ k.
    let was = course_of k c.args.self.now.courses in
    ap (λ (x : Course). x.strays) (c.take.ensures.after k)
    ∙ strays_by (is_same c.args.side k) (course_after c.args.flags c.args.stray _ c.args.when was) was

flipped : (x y : Bool) → x ≡ not y → y ≡ not x
flipped true true e = absurd (cc)
flipped true false e = refl
flipped false true e = refl
flipped false false e = absurd (cc)

pub returns-clause-grown : goal.returns-clause-grown
returns-clause-grown c = λ a b t k.
    let rst = c.args.segment.now.flags.rst in
    let some : Bool = not (length c.args.segment.now.payload.now == 0) in
    let has_data = c.if-not-segment.has_data in
    let sent : has_data ≡ (not rst && some) = elim c.if-not-segment.branch [
      | then-not-segment w ↦
          let f : (not rst && some) ≡ some = ap (λ (x : Bool). not x && some) w.if-not-segment.true in
          let g = w.has_data-is in
          let h : not w.is_empty.result ≡ some = ap not w.is_empty.ensures in cc
      | else-not-segment w ↦
          let f : (not rst && some) ≡ false = ap (λ (x : Bool). not x && some) w.if-not-segment.false in
          let g = w.has_data-is in
          let h : not rst ≡ false = ap not w.if-not-segment.false in cc
    ] in
    let begins = c.if-has_data.begins in
    let none = not (is_some (grown_with c.args.side c.args.self.now)) in
    let first : begins ≡ (has_data && none) = elim c.if-has_data.branch [
      | then-has_data w ↦
          let f : (has_data && none) ≡ none = ap (λ (x : Bool). x && none) w.if-has_data.true in
          let g = w.begins-is in
          let of : not (is_some w.of.result.grown) ≡ none = ap (λ (x : Course). not (is_some x.grown)) w.of.ensures in
          let h : w.is_none-begins.result ≡ not (is_some w.of.result.grown) = flipped _ _ w.is_none-begins.ensures in cc
      | else-has_data w ↦
          let f : (has_data && none) ≡ false = ap (λ (x : Bool). x && none) w.if-has_data.false in
          let g = w.begins-is in
          let h = w.if-has_data.false in cc
    ] in
    let longer = nat_lt c.args.length (length (of_side c.args.side a b).out) in
    let grows : c.if-begins.grows ≡ (begins || longer) = elim c.if-begins.branch [
      | then-begins w ↦
          let f : (begins || longer) ≡ true = ap (λ (x : Bool). x || longer) w.if-begins.true in
          let g = w.grows-is in
          let h = w.if-begins.true in cc
      | else-begins w ↦
          let f : (begins || longer) ≡ longer = ap (λ (x : Bool). x || longer) w.if-begins.false in
          let g = w.grows-is in
          let h : nat_lt c.args.length w.length.result ≡ longer = ap (λ (n : ℕ). nat_lt c.args.length n) (w.length.ensures a b t) in cc
    ] in
    grown_by c.args.segment.now c.args.flags c.args.stray c.args.when c.args.side k c.args.length (length (of_side c.args.side a b).out) c.args.self.now _ _
    (grows ∙ ap (λ (x : Bool). x || longer) (first ∙ ap (λ (x : Bool). x && none) sent)) (c.take.ensures.after k)
