-- How lines are packed.
use Rattle.std.proofs.Common.{◌≡◌, ◌⊎◌, ℕ, ◌+◌, ◌*◌, ◌^◌, ◌<◌, ◌≤◌, leb, eqb, Bool, true, false, List, [], ◌∷◌, ◌++◌, length, take, drop, Option, Some, None}
use Rattle.std.proofs.Common.{Result, Ok, Err, refl, sym, ap, ◌∙◌, arith, inl, inr}
use Rattle.std.specs.Prelude.{codes}
use Rattle.std.proofs.lemmas.Bool.{ne_eqb}
use Rattle.std.proofs.lemmas.List.{append-nil, append_assoc, length-append, length-take-le, take_all, take-append-drop}
use Rattle.hex.proofs.HexLemmas.{decode_of-ok}
use Rattle.bt_wire.specs.declared.context.Own.{Own}
use Rattle.bt_wire.specs.declared.fault.Reason.{Reason as WireReason}
use Rattle.bt_wire.specs.declared.fault.Refused.{Refused as Fault}
use Rattle.bt_wire.specs.declared.item.Item.{Item}
use Rattle.bt_wire.specs.declared.item.Item.TheVariants as items
use Rattle.bt_wire.specs.Faults.{window_length}
use Rattle.bt_wire.specs.Messages.{Fields, none, index, part, block, port, field, extended, payload, spell_fields, spell}
use Rattle.bt_wire.specs.Numbers.{be32}
use Rattle.bt_wire.specs.Streams.{Outcome, with_item}
use Rattle.bt_wire.proofs.HandLaws.{hand-length}
use Rattle.bt_wire.proofs.HeaderLaws.{whole_there}
use Rattle.bt_wire.proofs.NumberLaws.{number32-be32}
use Rattle.bt_wire.proofs.SpellLaws.{fits, spelled_first}
use Rattle.bt_feed.specs.declared.stage.Stage.{Stage}
use Rattle.bt_feed.specs.declared.stage.Stage.TheVariants as stage
use Rattle.bt_feed.specs.Feeds.{FeedState}
use Rattle.bt_feed.specs.Stages.{start_of, number_of, limit_of, early, is_all, is_closed, refusal_of, IsItem, stage_after, Comes, stopped}
use Rattle.bt_feed.specs.Transcripts.{with_items}
use Rattle.bt_feed.proofs.Closed.{closed_all, open_by}
use Rattle.bt_feed.proofs.Coming.{item_comes, fault_comes, open_comes}
use Rattle.bt_feed.proofs.Found.{early_has}
use Rattle.bt_text.specs.Lines.{spaced}
use Rattle.bt_text.specs.Script.{IsLine, IsAdded, Said, keep_alive, known, unknown, Says, said_bytes, framed_by, SaysFields, SaysSpaced, SaysBytes}
use Rattle.bt_text.specs.declared.ended.ScriptReason.TheVariants.{Reason}
use Rattle.bt_jobs.specs.Packs.{IsNamed, AreNamed, AreTaken, is_none}
use Rattle.bt_jobs.specs.PackSteps.{IsLonger, IsJudged, is_hand, IsPackedTo, Packing, IsNamedAfter, IsLineEnd}

-- ---- lines that are named

named_after : (limit : ℕ) (lines : List (List ℕ)) (b line x : List ℕ) → AreNamed limit false lines b → IsNamed limit false line x
    → AreNamed limit false (lines ++ line ∷ []) (b ++ x)
named_after limit [] b line x h n = (x, [], n, ap (λ (l : List ℕ). l ++ x) h ∙ sym (append-nil x), refl)
named_after limit (l ∷ lines) b line x h n =
    (h.0, h.1 ++ x, h.2, ap (λ (z : List ℕ). z ++ x) h.3 ∙ append_assoc h.0 h.1 x, named_after limit lines h.1 line x h.4 n)

-- a line more
named_more : (limit : ℕ) (lines : List (List ℕ)) (b line x : List ℕ) → AreNamed limit true lines b → IsNamed limit (is_none lines) line x
    → AreNamed limit true (lines ++ line ∷ []) (b ++ x)
named_more limit [] b line x h n = (x, [], n, ap (λ (l : List ℕ). l ++ x) h ∙ sym (append-nil x), refl)
named_more limit (l ∷ lines) b line x h n =
    (h.0, h.1 ++ x, h.2, ap (λ (z : List ℕ). z ++ x) h.3 ∙ append_assoc h.0 h.1 x, named_after limit lines h.1 line x h.4 n)

pub some_lines : (lines : List (List ℕ)) (line : List ℕ) → is_none (lines ++ line ∷ []) ≡ false
some_lines [] line = refl
some_lines (l ∷ lines) line = refl

-- ---- what is left after the items

not_all : (t : Stage) → is_all t [] ≡ false
not_all (stage.Handshake own) = refl
not_all (stage.Message c o s n) = refl

-- the outcome of no bytes
record IsLast (t : Stage) (e : Outcome) : Type 0 where
  comes : Comes t [] e
  tail : e.tail ≡ []
  items : e.items ≡ []
  number : e.number ≡ number_of t
  start : e.start ≡ start_of t

by_early : (t : Stage) (o : Option Fault) → limit_of t < 2 ^ 32 → early t [] ≡ o → (e : Outcome) × IsLast t e
by_early t (Some f) lt e = (
  stopped t [] (Some (refusal_of t f)),
  record {
    comes = fault_comes t [] f lt (early_has t [] f e);
    tail = refl;
    items = refl;
    number = refl;
    start = refl;
  },
)
by_early t None lt e = (
  stopped t [] None,
  record {
    comes = open_comes t [] lt (open_by t [] e (not_all t));
    tail = refl;
    items = refl;
    number = refl;
    start = refl;
  },
)

-- the lines so far are taken
pub record IsTakenSoFar (own : Own) (lines : List (List ℕ)) (b : List ℕ) (f : FeedState) (xs : List (ℕ × Item)) (v : Outcome) : Type 0 where
  pub taken : AreTaken own lines b v
  pub items : v.items ≡ xs
  pub number : v.number ≡ number_of f.stage
  pub start : v.start ≡ start_of f.stage

pub taken_so_far : (own : Own) (lines : List (List ℕ)) (b : List ℕ) (f : FeedState) → (h : IsPackedTo own lines b f) → (v : Outcome)
    × IsTakenSoFar own lines b f h.items v
taken_so_far own lines b f h =
    let last = by_early f.stage (early f.stage []) (omega (arith, h.limit, h.bound)) refl in (
      with_items h.items last.0,
      record {
        taken = record { named = h.named; verdict = rw (append-nil b) at (h.comes [] last.0 last.1.comes); nothing_left = last.1.tail };
        items = ap (λ (l : List (ℕ × Item)). h.items ++ l) last.1.items ∙ append-nil h.items;
        number = last.1.number;
        start = last.1.start;
      },
    )

-- ---- how long the bytes of a line are

length-said : (w bytes : List ℕ) → SaysBytes w bytes → length bytes ≤ length w
length-said w [] h = omega arith
length-said w (b ∷ bytes) h = omega (arith, (decode_of-ok w (b ∷ bytes) h).2)

length-spaced_said : (text bytes : List ℕ) → SaysSpaced text bytes → length bytes ≤ length text
length-spaced_said text bytes h = omega (arith, length-said h.0 bytes h.2, ap length h.1, length-append (codes " ") h.0)

length-fields : (text : List ℕ) (f : Fields) → SaysFields text f → length (spell_fields f) ≤ 12 + length text
length-fields text none h = omega arith
length-fields text (index i) h = omega arith
length-fields text (part i b l) h = omega arith
length-fields text (block i b bytes) h = omega (
  arith,
  length-spaced_said h.0 bytes h.2,
  ap length h.1,
  length-append (spaced i) (spaced b ++ h.0),
  length-append (spaced b) h.0,
  length-append (be32 i ++ be32 b) bytes,
)
length-fields text (port p) h = omega arith
length-fields text (field bits) h = omega (arith, length-spaced_said text bits h)
length-fields text (extended n bytes) h = omega (arith, length-spaced_said h.0 bytes h.2, ap length h.1, length-append (spaced n) h.0)
length-fields text (payload bytes) h = omega (arith, length-spaced_said text bytes h)

framed_whole : (n : ℕ) (fields : List ℕ) → 1 + length fields < 2 ^ 32 → window_length (framed_by n fields) ≡ length (framed_by n fields)
framed_whole n fields lt = omega (arith, number32-be32 (1 + length fields) (n ∷ fields) lt, length-append (be32 (1 + length fields)) (n ∷ fields))

said_whole : (text : List ℕ) (s : Said) → length text < 2 ^ 31 → Says text s → window_length (said_bytes s) ≡ length (said_bytes s)
said_whole text keep_alive lt h = omega (arith, number32-be32 0 [] (omega arith))
said_whole text (known i f) lt h = framed_whole i.number (spell_fields f) (omega (arith, length-fields h.1 f h.4, ap length h.2, length-append h.0 h.1))
said_whole text (unknown n bytes) lt h =
    framed_whole n bytes (omega (
      arith,
      length-spaced_said h.0 bytes h.4,
      ap length h.1,
      length-append (codes "unknown") (spaced n ++ h.0),
      length-append (spaced n) h.0,
    ))

-- all of the item's bytes are there
abbrev AllThere : Stage → List ℕ → Type 0
AllThere (stage.Handshake own) x = length x ≡ 68
AllThere (stage.Message c o s n) x = window_length x ≡ length x

line_there : (t : Stage) (first : Bool) (text x : List ℕ) → length text < 2 ^ 31 → is_hand t ≡ first → IsLine first text x → AllThere t x
line_there (stage.Handshake own) true text x lt e h = ap length h.2 ∙ hand-length h.0 h.1.3.fits
line_there (stage.Handshake own) false text x lt e h = absurd cc
line_there (stage.Message c o s n) true text x lt e h = absurd cc
line_there (stage.Message c o s n) false text x lt e h = ap window_length h.2 ∙ said_whole text h.0 lt h.1 ∙ sym (ap length h.2)

there_all : (t : Stage) (x : List ℕ) → AllThere t x → is_all t x ≡ true
there_all (stage.Handshake own) x e = ap (λ (n : ℕ). leb 68 n) e
there_all (stage.Message c o s n) x e = whole_there x (omega (arith, e))

-- an item of their front is all of them
front_is_all : (t : Stage) (x : List ℕ) (n : ℕ) (item : Item) → limit_of t < 2 ^ 32 → AllThere t x → n ≤ length x → IsItem t (take n x) item → take n x ≡ x
front_is_all (stage.Handshake own) x n (items.Handshake h) lt all le p =
    take_all n x (omega (arith, ap length p.2, hand-length h p.1, length-take-le n x le, all))
front_is_all (stage.Message c o s i) x n (items.Message m) lt all le p =
    let r = drop n x in
    let parts : x ≡ spell c m ++ r = sym (take-append-drop n x) ∙ ap (λ (l : List ℕ). l ++ r) p.1 in
    let first = spelled_first c m r (fits c o s m lt p.0) in
    take_all n x (omega (arith, all, ap window_length parts, first.size, ap length p.1, length-take-le n x le))
front_is_all (stage.Handshake own) x n (items.Message m) lt all le p = absurd p
front_is_all (stage.Message c o s i) x n (items.Handshake h) lt all le p = absurd p

-- ---- a line

-- the bytes of a line are no less and no more than an item
pub closes : (t : Stage) (text x : List ℕ) (first : Bool) → limit_of t < 2 ^ 32 → length text < 2 ^ 31 → is_hand t ≡ first → IsLine first text x
    → (is_closed t x ≡ false) ⊎ IsLonger t x → ⊥
closes t text x first le lt is line (inl opens) =
    let shut = closed_all t x (there_all t x (line_there t first text x lt is line)) in
    let no : true ≡ false = sym shut ∙ opens in cc
closes t text x first le lt is line (inr h) =
    let whole = front_is_all t x h.0 h.2.0 le (line_there t first text x lt is line) (omega (arith, h.1)) h.2.1 in
    omega (arith, h.1, ap length whole, length-take-le h.0 x (omega (arith, h.1)))

after_number : (t : Stage) (b : List ℕ) (size : ℕ) (item : Item) → IsItem t b item → (number_of (stage_after t size item) ≡ number_of t + 1)
    × (is_hand (stage_after t size item) ≡ false) × (limit_of (stage_after t size item) ≡ limit_of t)
after_number (stage.Handshake own) b size (items.Handshake h) p = (refl, refl, refl)
after_number (stage.Message c o s n) b size (items.Message m) p = (refl, refl, refl)
after_number (stage.Handshake own) b size (items.Message m) p = absurd p
after_number (stage.Message c o s n) b size (items.Handshake h) p = absurd p

-- The line `text` names `bytes`, and the judge, which was `f` and is `g`, answers `r` to them.
pub record IsLineJudged (own : Own) (p : Packing) (text : List ℕ) (f g : FeedState) (r : Result Bool WireReason) : Type 0 where
  pub bytes : List ℕ
  pub named : IsNamed own.limit (is_none p.lines) text bytes
  pub packed : IsPackedTo own p.lines p.bytes f
  pub judged : IsJudged f bytes g r

pub line_taken : (own : Own) (p : Packing) (text out : List ℕ) (f g : FeedState) → (j : IsLineJudged own p text f g (Ok true)) → out ≡ p.out ++ j.bytes
    → IsLineEnd own p text g out None
line_taken own p text out f g j grown =
    let h = j.packed in
    let x = j.bytes in
    let is = j.judged in
    let item = is.0 in
    let steps = after_number f.stage x (length x) item is.1 in (
      x,
      grown,
      (rw is.2 (record {
        named = named_more own.limit p.lines p.bytes text x h.named j.named;
        items = h.items ++ (start_of f.stage, item) ∷ [];
        comes = λ later v k.
            (rw (sym (append_assoc p.bytes x later)) at (rw (sym (append_assoc h.items ((start_of f.stage, item) ∷ []) v.items)) at (h.comes (x ++ later) (with_item (start_of f.stage) item v) (item_comes f.stage x later item v (omega (arith, h.limit, h.bound)) is.1 k))));
        empty = refl;
        first = steps.1 ∙ sym (some_lines p.lines text);
        count = steps.0 ∙ omega (arith, h.count, length-append p.lines (text ∷ []));
        limit = steps.2 ∙ h.limit;
        bound = h.bound;
      })),
    )

pub line_refused : (own : Own) (p : Packing) (text : List ℕ) (f g : FeedState) (reason : WireReason) → IsLineJudged own p text f g (Err reason)
    → IsLineEnd own p text g p.out (Some (Reason reason))
line_refused own p text f g reason j =
    let h = j.packed in
    let x = j.bytes in
    let is = j.judged in
    let fault = is.1 in
    let last = stopped f.stage x (Some (refusal_of f.stage fault.0)) in
    let so_far = taken_so_far own p.lines p.bytes f h in (
      refl,
      ap (λ (s : FeedState). number_of s.stage) is.0 ∙ h.count,
      (
        so_far.0,
        so_far.1.taken,
        (
          x,
          j.named,
          with_items h.items last,
          h.comes x last (fault_comes f.stage x fault.0 (omega (arith, h.limit, h.bound)) fault.1),
          append-nil h.items ∙ sym so_far.1.items,
          refusal_of f.stage fault.0,
          refl,
          fault.2,
        ),
      ),
    )

by_lines : (lines : List (List ℕ)) → eqb (length lines) 0 ≡ is_none lines
by_lines [] = refl
by_lines (l ∷ lines) = ne_eqb (length (l ∷ lines)) 0 (λ e. omega (arith, e))

pub first_flag : (own : Own) (lines : List (List ℕ)) (b : List ℕ) (f : FeedState) (n : ℕ) → IsPackedTo own lines b f → n ≡ number_of f.stage → eqb n 0
    ≡ is_none lines
first_flag own lines b f n h e = ap (λ (k : ℕ). eqb k 0) (e ∙ h.count) ∙ by_lines lines

pub read_as : (limit : ℕ) (first flag : Bool) (text old new : List ℕ) (ok : Bool) → ok ≡ true → first ≡ flag → length text ≤ 2 * limit + 256
    → IsAdded first text old new ok → IsNamedAfter limit flag text old new
read_as limit first flag text old new ok e same short h =
    let line = rw e at h in
    record { bytes = line.0; named = record { short = short; line = (rw same at line.1) }; joined = line.2 }

pub not_read : (limit : ℕ) (first flag : Bool) (text old new : List ℕ) (ok : Bool) → ok ≡ false → first ≡ flag → IsAdded first text old new ok
    → ((x : List ℕ) → IsNamed limit flag text x → ⊥) × (new ≡ old)
not_read limit first flag text old new ok e same h =
    let no = rw e at h in
    ((rw (← same) (λ x n. no.0 x n.line)), no.1)

pub no_line : (own_limit limit : ℕ) (first flag : Bool) (text : List ℕ) → limit ≡ own_limit → first ≡ flag
    → ((bytes : List ℕ) → length text ≤ 2 * limit + 256 → IsLine first text bytes → ⊥) → (x : List ℕ) → IsNamed own_limit flag text x → ⊥
no_line own_limit limit first flag text e same not_one =
    (rw (← same) (λ x n. not_one x (omega (arith, n.short, e)) n.line))
