-- A stream that the strict rules don't refuse is read by the lenient rules in the same way.
use Rattle.std.proofs.Common.{◌≡◌, ℕ, ◌+◌, ◌<◌, ◌^◌, List, [], ◌∷◌, ◌++◌, length, refl, sym, ap, subst, ◌∙◌, arith}
use Rattle.std.proofs.lemmas.List.{append_assoc, length-append}
use Rattle.bt_ext.specs.declared.ids.Rules.TheVariants.{Free}
use Rattle.bt_wire.specs.declared.item.Item.{Item}
use Rattle.bt_wire.specs.declared.item.Item.TheVariants as items
use Rattle.bt_wire.specs.Streams.{Outcome, with_item}
use Rattle.bt_feed.specs.declared.stage.Stage.{Stage}
use Rattle.bt_feed.specs.declared.stage.Stage.TheVariants as stage
use Rattle.bt_feed.specs.Stages.{start_of, limit_of, with_rules, IsItem, stage_after, Spells, Comes}
use Rattle.bt_feed.specs.Transcripts.{with_items}
use Rattle.bt_feed.proofs.Coming.{item_comes}
use Rattle.bt_judge.proofs.Lenient.{said, same_fault}

-- ---- items, and what follows them

pub limit_after : (t : Stage) (size : ℕ) (item : Item) → limit_of (stage_after t size item) ≡ limit_of t
limit_after (stage.Handshake own) size (items.Handshake h) = refl
limit_after (stage.Message c o s n) size (items.Message m) = refl
limit_after (stage.Handshake own) size (items.Message m) = refl
limit_after (stage.Message c o s n) size (items.Handshake h) = refl

-- what follows items has the outcome of what is awaited then
pub spells_comes : (t : Stage) (xs : List (ℕ × Item)) (b : List ℕ) (u : Stage) (rest : List ℕ) → limit_of t < 2 ^ 32 → Spells t xs b u rest
    → (later : List ℕ) (v : Outcome) → Comes u (rest ++ later) v → Comes t (b ++ later) (with_items xs v)
spells_comes t [] b u rest lt p later v k =
    let P : Stage → Type 0 = λ s. Comes s (b ++ later) v in
    let Q : List ℕ → Type 0 = λ l. Comes u (l ++ later) v in
    subst P p.0 (subst Q (sym p.1) k)
spells_comes t (x ∷ xs) b u rest lt p later v k =
    let w = p.1.0 in
    let more = p.1.1 in
    let next = stage_after t (length w) x.1 in
    let after = spells_comes next xs more u rest (omega (arith, lt, limit_after t (length w) x.1)) p.1.4 later v k in
    let all = item_comes t w (more ++ later) x.1 (with_items xs v) lt p.1.3 after in
    let P : List ℕ → Type 0 = λ l. Comes t l (with_items (x ∷ xs) v) in
    let Q : ℕ → Type 0 = λ s. Comes t (w ++ (more ++ later)) (with_item s x.1 (with_items xs v)) in
    subst P (sym (ap (λ (l : List ℕ). l ++ later) p.1.2 ∙ append_assoc w more later)) (subst Q (sym p.0) all)

start_after : (t : Stage) (b : List ℕ) (item : Item) → IsItem t b item → start_of (stage_after t (length b) item) ≡ start_of t + length b
start_after (stage.Handshake own) b (items.Handshake h) p = omega arith
start_after (stage.Message c o s n) b (items.Message m) p = refl
start_after (stage.Handshake own) b (items.Message m) p = absurd p
start_after (stage.Message c o s n) b (items.Handshake h) p = absurd p

-- where they start, and how long they are
pub spells_length : (t : Stage) (xs : List (ℕ × Item)) (b : List ℕ) (u : Stage) (rest : List ℕ) → Spells t xs b u rest
    → start_of u + length rest ≡ start_of t + length b
spells_length t [] b u rest p = omega (arith, ap start_of p.0, ap length p.1)
spells_length t (x ∷ xs) b u rest p =
    let w = p.1.0 in
    let more = p.1.1 in
    let next = stage_after t (length w) x.1 in
    omega (arith, spells_length next xs more u rest p.1.4, start_after t w x.1 p.1.3, ap length p.1.2, length-append w more)

-- the items alone
pub spells_split : (t : Stage) (xs : List (ℕ × Item)) (b : List ℕ) (u : Stage) (rest : List ℕ) → Spells t xs b u rest
    → (p : List ℕ) × (b ≡ p ++ rest) × Spells t xs p u []
spells_split t [] b u rest p = ([], p.1, (p.0, refl))
spells_split t (x ∷ xs) b u rest p =
    let w = p.1.0 in
    let r = spells_split (stage_after t (length w) x.1) xs p.1.1 u rest p.1.4 in (
      w ++ r.0,
      p.1.2 ∙ ap (λ (l : List ℕ). w ++ l) r.1 ∙ sym (append_assoc w r.0 rest),
      (p.0, (w, r.0, refl, p.1.3, r.2)),
    )

-- ---- by the lenient rules

start_free : (t : Stage) → start_of (with_rules Free t) ≡ start_of t
start_free (stage.Handshake own) = refl
start_free (stage.Message c o s n) = refl

pub limit_free : (t : Stage) → limit_of (with_rules Free t) ≡ limit_of t
limit_free (stage.Handshake own) = refl
limit_free (stage.Message c o s n) = refl

after_free : (t : Stage) (size : ℕ) (item : Item) → stage_after (with_rules Free t) size item ≡ with_rules Free (stage_after t size item)
after_free (stage.Handshake own) size (items.Handshake h) = refl
after_free (stage.Message c o s n) size (items.Message m) = refl
after_free (stage.Handshake own) size (items.Message m) = refl
after_free (stage.Message c o s n) size (items.Handshake h) = refl

item_free : (t : Stage) (b : List ℕ) (item : Item) → IsItem t b item → IsItem (with_rules Free t) b item
item_free (stage.Handshake own) b (items.Handshake h) p = (sym (same_fault own b) ∙ p.0, p.1, p.2)
item_free (stage.Message c o s n) b (items.Message m) p = (said c o s m p.0, p.1)
item_free (stage.Handshake own) b (items.Message m) p = absurd p
item_free (stage.Message c o s n) b (items.Handshake h) p = absurd p

pub spells_free : (t : Stage) (xs : List (ℕ × Item)) (b : List ℕ) (u : Stage) (rest : List ℕ) → Spells t xs b u rest
    → Spells (with_rules Free t) xs b (with_rules Free u) rest
spells_free t [] b u rest p = (ap (with_rules Free) p.0, p.1)
spells_free t (x ∷ xs) b u rest p =
    let w = p.1.0 in
    let P : Stage → Type 0 = λ s. Spells s xs p.1.1 (with_rules Free u) rest in (
      p.0 ∙ sym (start_free t),
      (
        w,
        p.1.1,
        p.1.2,
        item_free t w x.1 p.1.3,
        subst P (sym (after_free t (length w) x.1)) (spells_free (stage_after t (length w) x.1) xs p.1.1 u rest p.1.4),
      ),
    )
