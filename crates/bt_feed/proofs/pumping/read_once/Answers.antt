use Rattle.std.proofs.Common.{◌≡◌, ◌∙◌, ◌≤◌, [], ℕ, List, take, drop, length, refl, sym, ap, subst, arith, append_assoc, rules}
use Rattle.std.proofs.lemmas.List.{append-nil, nil_from_length, take-append-le, length-append}
use Rattle.std.specs.Io.KnownBytes.{Consumes}
use Rattle.bt_feed.specs.Feeds.{FeedState, with_bytes}
use Rattle.bt_feed.specs.Stages.{Comes}
use Rattle.bt_feed.specs.Pumps.{IsFed}
use Rattle.bt_feed.proofs.Moving.{fed_none}
use Rattle.bt_feed.proofs.pumping.read_once.Goals as goal

fed_bytes : (f g : FeedState) (bytes : List ℕ) → g ≡ with_bytes f bytes → IsFed f bytes [] g
fed_bytes f g bytes e =
    let P : FeedState → Type 0 = λ x. IsFed f bytes [] x in
    subst P (sym e) (record {
      comes = λ later v q.
          let Q : List ℕ → Type 0 = λ b. Comes f.stage b v in
          subst Q (append_assoc f.held bytes later) q;
      spells = (refl, refl);
    })

none_read : (f g : FeedState) (bytes : List ℕ) → g ≡ with_bytes f bytes → bytes ≡ [] → g ≡ f
none_read f g bytes e none =
    e ∙ ap (with_bytes f) none ∙ ap (λ (b : List ℕ). record { stage = f.stage; held = b; refused = f.refused }) (append-nil f.held)

pub returns-in-Some-Ok-clause-some : goal.returns-in-Some-Ok-clause-some
returns-in-Some-Ok-clause-some g c =
    let r = rw c.in-Some-Ok.field-0-is at c.in-Some-Ok.ensures.read in
    let left = (g.R.Source.seen c.args.reader.now).left in
    let left' = (g.R.Source.seen c.read.new.reader).left in
    (omega arith, refl, (r.0, fed_bytes c.args.feed.now c.read.new.self r.0 r.2, subst (Consumes left left') (sym (append-nil r.0)) r.3))

pub returns-in-Some-Ok-clause-none : goal.returns-in-Some-Ok-clause-none
returns-in-Some-Ok-clause-none g c = λ e.
    let r = rw c.in-Some-Ok.field-0-is at c.in-Some-Ok.ensures.read in
    let none : r.0 ≡ [] = nil_from_length r.0 (r.1 ∙ e) in
    let left = (g.R.Source.seen c.args.reader.now).left in
    let left' = (g.R.Source.seen c.read.new.reader).left in
    (none_read c.args.feed.now c.read.new.self r.0 r.2 none, subst (Consumes left left') none r.3)

pub returns-in_ok-count-in-None-clause-some : goal.returns-in_ok-count-in-None-clause-some
returns-in_ok-count-in-None-clause-some g c =
    let into = c.read-in-None.new.into in
    let rest = drop c.if-is_peek.most c.args.buffer.now in
    let n = c.in_ok-count-in-None.count in
    let within : n ≤ length into = omega (arith, c.in_ok-count-in-None.ensures.bound) in
    let same = c.in-None.ensures.none refl in (
      omega (arith, length-append into rest, within),
      search rules,
      (
        [],
        subst (λ (f : FeedState). IsFed c.args.feed.now [] [] f) (sym same.0) (fed_none c.args.feed.now),
        subst (λ (piece : List ℕ). Consumes (g.R.Source.seen c.args.reader.now).left (g.R.Source.seen c.read-in-None.new.self).left piece)
            (sym (take-append-le n into rest within)) (search rules),
      ),
    )
