use Rattle.std.proofs.Common.{◌≡◌, ◌∙◌, ℕ, ◌-◌, List, ◌++◌, length, take, drop, Option, None, sym, subst, ap, append_assoc}
use Rattle.std.proofs.lemmas.List.{take-append-drop, take_rest}
use Rattle.std.specs.Prelude.{IsSome}
use Rattle.bt_ext.specs.declared.ids.Rules.TheVariants.{Free, Bep}
use Rattle.bt_wire.specs.declared.item.Item.{Item}
use Rattle.bt_wire.specs.declared.item.Refusal.{Refusal}
use Rattle.bt_feed.specs.Stages.{with_rules}
use Rattle.bt_feed.proofs.Moving.{took_both, missed_more}
use Rattle.bt_judge.specs.Judges.{under, IsFree}
use Rattle.bt_judge.specs.Readings.{ReadingState, IsJudged, Begins, BeginsWith}
use Rattle.bt_judge.proofs.Both.{front_all, begins_free, begins_more, stopped_more}
use Rattle.bt_judge.proofs.Judging.{begins, none_by}
use Rattle.bt_judge.proofs.judge.Judge.take_both.Goals as goal

whole : (b bytes : List ℕ) (n : ℕ) → (b ++ take n bytes) ++ drop n bytes ≡ b ++ bytes
whole b bytes n = append_assoc b (take n bytes) (drop n bytes) ∙ ap (λ (l : List ℕ). b ++ l) (take-append-drop n bytes)

sliced : (b bytes : List ℕ) (n : ℕ) → (b ++ take n bytes) ++ take (length bytes - n) (drop n bytes) ≡ b ++ bytes
sliced b bytes n = ap (λ (l : List ℕ). (b ++ take n bytes) ++ l) (take_rest bytes n) ∙ whole b bytes n

joined : (xs ys zs more : List (ℕ × Item)) → xs ≡ ys → (ys ++ zs) ++ more ≡ xs ++ (zs ++ more)
joined xs ys zs more e = append_assoc ys zs more ∙ ap (λ (l : List (ℕ × Item)). l ++ (zs ++ more)) (sym e)

joined_all : (xs ys zs more last : List (ℕ × Item)) → xs ≡ ys → ((ys ++ zs) ++ more) ++ last ≡ xs ++ ((zs ++ more) ++ last)
joined_all xs ys zs more last e =
    ap (λ (l : List (ℕ × Item)). l ++ last) (joined xs ys zs more e) ∙ append_assoc xs (zs ++ more) last

pub returns-in-Err-clause-judged : goal.returns-in-Err-clause-judged
returns-in-Err-clause-judged g c = λ own b xs ys j none.
    let both = subst (λ (o : Option ReadingState). IsFree own b xs ys c.args.self.now.bep o) none j.free in
    let all = b ++ c.args.bytes.now in
    let r = c.in-Err.ensures.judged (under Bep own) b ys j.bep both.0 in
    let u = c.take_front.new.self.feed.stage in
    let free = begins_free (under Bep own) all (ys ++ r.0) u r.1.1 in
    let P : List (ℕ × Item) → Type 0 = λ l. Begins (under Free own) all (l ++ r.0) (with_rules Free u) in
    (r.0, (r.1.0, begins (under Free own) all (xs ++ r.0) (with_rules Free u) j.bep.limit (subst P (sym both.1) free)))

pub returns-then-is_none-clause-judged : goal.returns-then-is_none-clause-judged
returns-then-is_none-clause-judged g c = λ own b xs ys j none.
    let both = subst (λ (o : Option ReadingState). IsFree own b xs ys c.args.self.now.bep o) none j.free in
    let all = b ++ c.args.bytes.now in
    let bep = c.take_front.new.self in
    let r = c.in-Ok.ensures.judged (under Bep own) b ys j.bep both.0 in
    let calm : bep.refused ≡ None = sym c.refusal.ensures.kept ∙ none_by c.refusal.result c.if-is_none.ensures in
    let strict = front_all (under Bep own) b (ys ++ r.0) bep c.args.bytes.now c.in-Ok.count r.1.1 r.1.2.judged in
    let P : Option ReadingState → Type 0 = λ o. IsFree own all (xs ++ r.0) (ys ++ r.0) bep o in
    let free : P None = (calm, ap (λ (l : List (ℕ × Item)). l ++ r.0) both.1) in
    (r.0, (r.1.0, (r.0, record { bep = strict; free = subst P (sym none) free })))

pub returns-in-Err-lenient-clause-judged : goal.returns-in-Err-lenient-clause-judged
returns-in-Err-lenient-clause-judged g c = λ own b xs ys j none.
    let both = subst (λ (o : Option ReadingState). IsFree own b xs ys c.args.self.now.bep o) none j.free in
    let bytes = c.args.bytes.now in
    let n = c.in-Ok.count in
    let r = c.in-Ok.ensures.judged (under Bep own) b ys j.bep both.0 in
    let l = c.in-Err-lenient.ensures.judged (under Bep own) (b ++ take n bytes) (ys ++ r.0) r.1.2 in
    let u = l.1.1.0 in
    let more = begins_more (under Free own) (b ++ take n bytes) (drop n bytes) ((ys ++ r.0) ++ l.0) u l.1.1.1 in
    let P : List ℕ → List (ℕ × Item) → Type 0 = λ y zs. Begins (under Free own) y zs u in
    let here = subst (λ (y : List ℕ). P y ((ys ++ r.0) ++ l.0)) (whole b bytes n) more in
    let free = subst (λ (zs : List (ℕ × Item)). P (b ++ bytes) zs) (joined xs ys r.0 l.0 both.1) here in
    let S = g.S.Sink in (
      r.0 ++ l.0,
      (
        stopped_more S.takes S.misses c.in-Err-lenient.fault c.args.sink.now c.take_front.new.sink c.lenient.new.sink r.0 l.0 r.1.0 l.1.0,
        begins (under Free own) (b ++ bytes) (xs ++ (r.0 ++ l.0)) u j.bep.limit free,
      ),
    )

pub returns-in-Err-take-clause-judged : goal.returns-in-Err-take-clause-judged
returns-in-Err-take-clause-judged g c = λ own b xs ys j none.
    let both = subst (λ (o : Option ReadingState). IsFree own b xs ys c.args.self.now.bep o) none j.free in
    let bytes = c.args.bytes.now in
    let n = c.in-Ok.count in
    let r = c.in-Ok.ensures.judged (under Bep own) b ys j.bep both.0 in
    let l = c.in-Ok-lenient.ensures.judged (under Bep own) (b ++ take n bytes) (ys ++ r.0) r.1.2 in
    let t = c.in-Err-take.ensures.judged (under Free own) (b ++ take n bytes) ((ys ++ r.0) ++ l.0) l.1.1 in
    let P : List ℕ → List (ℕ × Item) → Type 0 = λ y zs. BeginsWith (under Free own) y zs in
    let here = subst (λ (y : List ℕ). P y (((ys ++ r.0) ++ l.0) ++ t.0)) (sliced b bytes n) t.1.1 in
    let free = subst (λ (zs : List (ℕ × Item)). P (b ++ bytes) zs) (joined_all xs ys r.0 l.0 t.0 both.1) here in
    let S = g.S.Sink in
    let took = took_both S.takes c.args.sink.now c.take_front.new.sink c.lenient.new.sink r.0 l.0 r.1.0 l.1.0 in (
      (r.0 ++ l.0) ++ t.0,
      (
        missed_more S.takes S.misses c.in-Err-take.fault c.args.sink.now c.lenient.new.sink c.take.new.sink (r.0 ++ l.0) t.0 took t.1.0,
        free,
      ),
    )

pub returns-clause-judged : goal.returns-clause-judged
returns-clause-judged g c = λ own b xs ys j none.
    let both = subst (λ (o : Option ReadingState). IsFree own b xs ys c.args.self.now.bep o) none j.free in
    let bytes = c.args.bytes.now in
    let n = c.in-Ok.count in
    let bep = c.take_front.new.self in
    let r = c.in-Ok.ensures.judged (under Bep own) b ys j.bep both.0 in
    let l = c.in-Ok-lenient.ensures.judged (under Bep own) (b ++ take n bytes) (ys ++ r.0) r.1.2 in
    let t = c.in-Ok-take.ensures.judged (under Free own) (b ++ take n bytes) ((ys ++ r.0) ++ l.0) l.1.1 in
    let P : List ℕ → List (ℕ × Item) → Type 0 = λ y zs. IsJudged (under Free own) y zs c.take.new.self in
    let here = subst (λ (y : List ℕ). P y (((ys ++ r.0) ++ l.0) ++ t.0)) (sliced b bytes n) t.1.1 in
    let free = subst (λ (zs : List (ℕ × Item)). P (b ++ bytes) zs) (joined_all xs ys r.0 l.0 t.0 both.1) here in
    let some = subst (λ (o : Option Refusal). IsSome o) c.refusal.ensures.kept c.if-is_none.ensures in
    let S = g.S.Sink in
    let took = took_both S.takes c.args.sink.now c.take_front.new.sink c.lenient.new.sink r.0 l.0 r.1.0 l.1.0 in (
      (r.0 ++ l.0) ++ t.0,
      (
        took_both S.takes c.args.sink.now c.lenient.new.sink c.take.new.sink (r.0 ++ l.0) t.0 took t.1.0,
        (r.0, record { bep = front_all (under Bep own) b (ys ++ r.0) bep bytes n r.1.1 r.1.2.judged; free = (some, free) }),
      ),
    )
