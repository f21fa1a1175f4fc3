-- The slots of statuses and bytes.
use Rattle.std.proofs.Common.{◌≡◌, ℕ, zero, suc, ◌+◌, ◌-◌, ◌*◌, ◌<◌, ◌≤◌, ◌⊎◌, inl, inr, true, false, cond, List, [], ◌∷◌, ◌++◌, length, take, drop, set}
use Rattle.std.proofs.Common.{Some, None, option_and_then, slice_get, map, replicate, count_by, refl, sym, ap, ◌∙◌, arith, append_assoc, length-append}
use Rattle.std.proofs.Common.{length-take, length-take-le, length-drop, min, add_assoc, position, fold}
use Rattle.std.specs.List.{list_all, position_or_len}
use Rattle.std.proofs.lemmas.List.{append-nil, take-append-drop, drop-drop}
use Rattle.std.proofs.Math.Seq.{take-append_seam, drop-append_seam, drop-length}
use Rattle.std.proofs.Math.ListN.{drop_of_length-le}
use Rattle.std.proofs.lemmas.Bool.{cases_lt}
use Rattle.std.proofs.lemmas.Grind.{common_steps}
use Rattle.bt_metadata.specs.declared.assembly.Status.{Status}
use Rattle.bt_metadata.specs.declared.assembly.Status.TheVariants as status
use Rattle.bt_metadata.specs.Blocks.{block_size}
use Rattle.bt_metadata.specs.Assemblies.{Slot, Lacking, Held, is_lacking, is_asked, is_held, is_settled, is_asked_in, kept, joined, block_in}
use Rattle.bt_metadata.specs.Sound.{slot_of, slots_of, lacks, asks, holds, settles, kept_status, asks_at, holds_at}

pub length-slots : (ss : List Status) (d : List ℕ) → length (slots_of ss d) ≡ length ss
length-slots [] d = refl
length-slots (s ∷ ss) d = ap suc (length-slots ss (drop block_size d))

-- ---- what is known of each

lacking_slot : (s : Status) (b : List ℕ) → is_lacking (slot_of s b) ≡ lacks s
lacking_slot status.Lacking b = refl
lacking_slot status.Asked b = refl
lacking_slot status.Rejected b = refl
lacking_slot status.Held b = refl

asked_slot : (s : Status) (b : List ℕ) → is_asked (slot_of s b) ≡ asks s
asked_slot status.Lacking b = refl
asked_slot status.Asked b = refl
asked_slot status.Rejected b = refl
asked_slot status.Held b = refl

held_slot : (s : Status) (b : List ℕ) → is_held (slot_of s b) ≡ holds s
held_slot status.Lacking b = refl
held_slot status.Asked b = refl
held_slot status.Rejected b = refl
held_slot status.Held b = refl

settled_slot : (s : Status) (b : List ℕ) → is_settled (slot_of s b) ≡ settles s
settled_slot status.Lacking b = refl
settled_slot status.Asked b = refl
settled_slot status.Rejected b = refl
settled_slot status.Held b = refl

kept_slot : (s : Status) (b : List ℕ) → slot_of (kept_status s) b ≡ kept (slot_of s b)
kept_slot status.Lacking b = refl
kept_slot status.Asked b = refl
kept_slot status.Rejected b = refl
kept_slot status.Held b = refl

lacking_or_len-slots : (ss : List Status) (d : List ℕ) → position_or_len is_lacking (slots_of ss d) ≡ position_or_len lacks ss
lacking_or_len-slots [] d = refl
lacking_or_len-slots (s ∷ ss) d = rw (lacking_slot s (take block_size d), lacking_or_len-slots ss (drop block_size d)) refl

pub first_lacking-slots : (ss : List Status) (d : List ℕ) → position is_lacking (slots_of ss d) ≡ position lacks ss
first_lacking-slots ss d = rw (lacking_or_len-slots ss d, length-slots ss d) refl

count_from-slots : (ss : List Status) (d : List ℕ) (n : ℕ) → fold (λ a x. a + cond (is_asked x) 1 0) n (slots_of ss d)
    ≡ fold (λ a x. a + cond (asks x) 1 0) n ss
count_from-slots [] d n = refl
count_from-slots (s ∷ ss) d n =
    ap (λ b. fold (λ a x. a + cond (is_asked x) 1 0) (n + cond b 1 0) (slots_of ss (drop block_size d))) (asked_slot s (take block_size d))
    ∙ count_from-slots ss (drop block_size d) (n + cond (asks s) 1 0)

pub count_asked-slots : (ss : List Status) (d : List ℕ) → count_by is_asked (slots_of ss d) ≡ count_by asks ss
count_asked-slots ss d = count_from-slots ss d 0

held_from-slots : (ss : List Status) (d : List ℕ) (n : ℕ) → fold (λ a x. a + cond (is_held x) 1 0) n (slots_of ss d) ≡ fold (λ a x. a + cond (holds x) 1 0) n ss
held_from-slots [] d n = refl
held_from-slots (s ∷ ss) d n =
    ap (λ b. fold (λ a x. a + cond (is_held x) 1 0) (n + cond b 1 0) (slots_of ss (drop block_size d))) (held_slot s (take block_size d))
    ∙ held_from-slots ss (drop block_size d) (n + cond (holds s) 1 0)

pub count_held-slots : (ss : List Status) (d : List ℕ) → count_by is_held (slots_of ss d) ≡ count_by holds ss
count_held-slots ss d = held_from-slots ss d 0

pub all_settled-slots : (ss : List Status) (d : List ℕ) → list_all is_settled (slots_of ss d) ≡ list_all settles ss
all_settled-slots [] d = refl
all_settled-slots (s ∷ ss) d = rw (settled_slot s (take block_size d), all_settled-slots ss (drop block_size d)) refl

pub all_held-slots : (ss : List Status) (d : List ℕ) → list_all is_held (slots_of ss d) ≡ list_all holds ss
all_held-slots [] d = refl
all_held-slots (s ∷ ss) d = rw (held_slot s (take block_size d), all_held-slots ss (drop block_size d)) refl

pub kept-slots : (ss : List Status) (d : List ℕ) → slots_of (map kept_status ss) d ≡ map kept (slots_of ss d)
kept-slots [] d = refl
kept-slots (s ∷ ss) d = rw (kept_slot s (take block_size d), kept-slots ss (drop block_size d)) refl

pub asks_at-slots : (ss : List Status) (d : List ℕ) (k : ℕ) → is_asked_in (slice_get (slots_of ss d) k) ≡ asks_at (slice_get ss k)
asks_at-slots [] d k = refl
asks_at-slots (s ∷ ss) d zero = asked_slot s (take block_size d)
asks_at-slots (s ∷ ss) d (suc k) = asks_at-slots ss (drop block_size d) k

pub lacking-slots : (n : ℕ) (d : List ℕ) → slots_of (replicate n status.Lacking) d ≡ replicate n Lacking
lacking-slots zero d = refl
lacking-slots (suc n) d = ap (λ xs. Lacking ∷ xs) (lacking-slots n (drop block_size d))

-- ---- one is set

-- what isn't held has no bytes
pub set-slots : (ss : List Status) (d : List ℕ) (k : ℕ) (x : Status) (y : Slot) → ((b : List ℕ) → slot_of x b ≡ y) → slots_of (set ss k x) d
    ≡ set (slots_of ss d) k y
set-slots [] d k x y h = refl
set-slots (s ∷ ss) d zero x y h = ap (λ z. z ∷ slots_of ss (drop block_size d)) (h (take block_size d))
set-slots (s ∷ ss) d (suc k) x y h = ap (λ zs. slot_of s (take block_size d) ∷ zs) (set-slots ss (drop block_size d) k x y h)

-- d with b at `at`
abbrev pub paste : List ℕ → ℕ → List ℕ → List ℕ
paste d at b = take at d ++ b ++ drop (at + length b) d

pub length-paste : (d b : List ℕ) (at : ℕ) → at + length b ≤ length d → length (paste d at b) ≡ length d
length-paste d b at h = omega (
  arith,
  length-append (take at d ++ b) (drop (at + length b) d),
  length-append (take at d) b,
  length-take-le at d (omega arith),
  length-drop (at + length b) d,
)

take_add : (m n : ℕ) (l : List ℕ) → take (m + n) l ≡ take m l ++ take n (drop m l)
take_add zero n l = grind (arith, common_steps)
take_add (suc m) n [] = grind (arith, common_steps)
take_add (suc m) n (x ∷ l) = let e : suc m + n ≡ suc (m + n) = omega arith in rw e (ap (λ t. x ∷ t) (take_add m n l))

take_all : (b : List ℕ) → length b ≤ block_size → take block_size b ≡ b
take_all b h =
    let z : drop block_size b ≡ [] = drop_of_length-le b {i = block_size} h in
    sym (append-nil (take block_size b)) ∙ ap (λ x. take block_size b ++ x) (sym z) ∙ take-append-drop block_size b

-- the front block replaced
front_at : (d b : List ℕ) → length b ≡ min block_size (length d) → (length b < block_size) ⊎ (block_size ≤ length b)
    → (take block_size (b ++ drop (length b) d) ≡ b) × (drop block_size (b ++ drop (length b) d) ≡ drop block_size d)
front_at d b e (inl h) =
    let l : length b ≡ length d = omega arith in
    let n : drop (length b) d ≡ [] = rw l (drop-length d) in
    let z : drop block_size b ≡ [] = drop_of_length-le b {i = block_size} (omega arith) in
    let y : drop block_size d ≡ [] = drop_of_length-le d {i = block_size} (omega arith) in
    let t : take block_size b ≡ b = take_all b (omega arith) in
    rw (n, append-nil) (t, z ∙ sym y)
front_at d b e (inr h) =
    let l : block_size ≡ length b = omega arith in (
      ap (λ n. take n (b ++ drop (length b) d)) l ∙ take-append_seam b (drop (length b) d),
      ap (λ n. drop n (b ++ drop (length b) d)) l ∙ drop-append_seam b (drop (length b) d) ∙ ap (λ n. drop n d) (sym l),
    )

-- a later block replaced
later_at : (d b : List ℕ) (k : ℕ) → block_size * suc k ≤ length d → (take block_size (paste d (block_size * suc k) b) ≡ take block_size d)
    × (drop block_size (paste d (block_size * suc k) b) ≡ paste (drop block_size d) (block_size * k) b)
later_at d b k m =
    let a : ℕ = block_size * k in
    let e : block_size * suc k ≡ block_size + a = omega arith in
    let l : length (take block_size d) ≡ block_size = length-take-le block_size d (omega arith) in
    let t : take (block_size + a) d ≡ take block_size d ++ take a (drop block_size d) = take_add block_size a d in
    let z : drop (block_size + a + length b) d ≡ drop (a + length b) (drop block_size d) = ap (λ n. drop n d) (add_assoc block_size a (length b))
    ∙ sym (drop-drop (a + length b) block_size d) in
    let p : paste d (block_size * suc k) b ≡ take block_size d ++ paste (drop block_size d) a b =
    ap (λ n. take n d ++ b ++ drop (n + length b) d) e ∙ ap (λ x. x ++ b ++ drop (block_size + a + length b) d) t
    ∙ ap (λ x. (take block_size d ++ take a (drop block_size d)) ++ b ++ x) z
    ∙ ap (λ x. x ++ drop (a + length b) (drop block_size d)) (append_assoc (take block_size d) (take a (drop block_size d)) b)
    ∙ append_assoc (take block_size d) (take a (drop block_size d) ++ b) (drop (a + length b) (drop block_size d)) in (
      ap (take block_size) p ∙ ap (λ n. take n (take block_size d ++ paste (drop block_size d) a b)) (sym l)
          ∙ take-append_seam (take block_size d) (paste (drop block_size d) a b),
      ap (drop block_size) p ∙ ap (λ n. drop n (take block_size d ++ paste (drop block_size d) a b)) (sym l)
          ∙ drop-append_seam (take block_size d) (paste (drop block_size d) a b),
    )

-- a block is held
pub hold-slots : (ss : List Status) (d b : List ℕ) (k : ℕ) → k < length ss → block_size * k ≤ length d → length b ≡ min block_size (length d - block_size * k) →
    slots_of (set ss k status.Held) (paste d (block_size * k) b) ≡ set (slots_of ss d) k (Held b)
hold-slots [] d b k l m e = absurd (omega arith)
hold-slots (s ∷ ss) d b zero l m e =
    let f = front_at d b (omega arith) (cases_lt (length b) block_size) in
    let z : 0 + length b ≡ length b = omega arith in
    ap (λ n. Held (take block_size (b ++ drop n d)) ∷ slots_of ss (drop block_size (b ++ drop n d))) z
    ∙ ap (λ x. Held x ∷ slots_of ss (drop block_size (b ++ drop (length b) d))) f.0 ∙ ap (λ x. Held b ∷ slots_of ss x) f.1
hold-slots (s ∷ ss) d b (suc k) l m e =
    let f = later_at d b k m in
    let i = hold-slots ss (drop block_size d) b k (omega arith) (omega (arith, length-drop block_size d)) (omega (arith, length-drop block_size d)) in
    ap (λ x. slot_of s x ∷ slots_of (set ss k status.Held) (drop block_size (paste d (block_size * suc k) b))) f.0
    ∙ ap (λ x. slot_of s (take block_size d) ∷ slots_of (set ss k status.Held) x) f.1 ∙ ap (λ xs. slot_of s (take block_size d) ∷ xs) i

-- ---- the whole

pub joined-slots : (ss : List Status) (d : List ℕ) → list_all holds ss ≡ true → length d ≤ block_size * length ss → joined (slots_of ss d) ≡ d
joined-slots [] d h l = grind (arith, common_steps)
joined-slots (status.Held ∷ ss) d h l =
    ap (λ x. take block_size d ++ x) (joined-slots ss (drop block_size d) h (omega (arith, length-drop block_size d))) ∙ take-append-drop block_size d
joined-slots (status.Lacking ∷ ss) d h l = absurd cc
joined-slots (status.Asked ∷ ss) d h l = absurd cc
joined-slots (status.Rejected ∷ ss) d h l = absurd cc

-- a held block
pub block-slots : (ss : List Status) (d : List ℕ) (k : ℕ) → holds_at (slice_get ss k) ≡ true → option_and_then block_in (slice_get (slots_of ss d) k)
    ≡ Some (take block_size (drop (block_size * k) d))
block-slots [] d k h = absurd cc
block-slots (status.Held ∷ ss) d zero h = refl
block-slots (status.Lacking ∷ ss) d zero h = absurd cc
block-slots (status.Asked ∷ ss) d zero h = absurd cc
block-slots (status.Rejected ∷ ss) d zero h = absurd cc
block-slots (s ∷ ss) d (suc k) h =
    let e : block_size + block_size * k ≡ block_size * suc k = omega arith in
    block-slots ss (drop block_size d) k h ∙ ap (λ x. Some (take block_size x)) (drop-drop (block_size * k) block_size d ∙ ap (λ n. drop n d) e)

-- and no other one has bytes
pub no_block-slots : (ss : List Status) (d : List ℕ) (k : ℕ) → holds_at (slice_get ss k) ≡ false → option_and_then block_in (slice_get (slots_of ss d) k) ≡ None
no_block-slots [] d k h = refl
no_block-slots (status.Held ∷ ss) d zero h = absurd cc
no_block-slots (status.Lacking ∷ ss) d zero h = refl
no_block-slots (status.Asked ∷ ss) d zero h = refl
no_block-slots (status.Rejected ∷ ss) d zero h = refl
no_block-slots (s ∷ ss) d (suc k) h = no_block-slots ss (drop block_size d) k h

-- its number is one of a block
pub held_within : (ss : List Status) (k : ℕ) → holds_at (slice_get ss k) ≡ true → k < length ss
held_within [] k h = absurd cc
held_within (s ∷ ss) zero h = omega arith
held_within (s ∷ ss) (suc k) h = let i : k < length ss = held_within ss k h in omega arith

-- a held block's length
pub held_length : (ss : List Status) (d b : List ℕ) (k : ℕ) → slice_get (slots_of ss d) k ≡ Some (Held b) → length b
    ≡ min block_size (length d - block_size * k)
held_length [] d b k h = absurd cc
held_length (status.Held ∷ ss) d b zero h =
    let e : b ≡ take block_size d = cc in
    let z : length d ≡ length d - block_size * 0 = omega arith in
    ap length e ∙ length-take block_size d ∙ ap (min block_size) z
held_length (status.Lacking ∷ ss) d b zero h = absurd cc
held_length (status.Asked ∷ ss) d b zero h = absurd cc
held_length (status.Rejected ∷ ss) d b zero h = absurd cc
held_length (s ∷ ss) d b (suc k) h =
    let i : length b ≡ min block_size (length (drop block_size d) - block_size * k) = held_length ss (drop block_size d) b k h in
    omega (arith, length-drop block_size d)

-- its number
pub got_within : (ss : List Status) (d b : List ℕ) (k : ℕ) → slice_get (slots_of ss d) k ≡ Some (Held b) → k < length ss
got_within [] d b k h = absurd cc
got_within (s ∷ ss) d b zero h = omega arith
got_within (s ∷ ss) d b (suc k) h = let i : k < length ss = got_within ss (drop block_size d) b k h in omega arith
