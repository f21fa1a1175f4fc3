-- Streams of which bytes are missing that may be any.
use Rattle.std.proofs.Common.{◌≡◌, ◌≢◌, ℕ, ◌+◌, ◌-◌, ◌^◌, ◌≤◌, ◌<◌, Bool, true, false, not, ◌&&◌, eqb, leb, List, [], ◌∷◌, ◌++◌, map, length, take, drop}
use Rattle.std.proofs.Common.{Option, Some, None, suc, zero, if◌then◌else◌, refl, sym, ap, subst, ◌∙◌, arith}
use Rattle.std.specs.Prelude.{IsSome, replicate}
use Rattle.std.proofs.lemmas.Bool.{eqb-true, leb-true, and_parts}
use Rattle.std.proofs.lemmas.List.{append-nil, append_assoc, length-append, nil_from_length, map-append, take-map, take_at, get_or_append_left, take-append-le}
use Rattle.std.proofs.lemmas.List.{take-append-drop}
use Rattle.std.proofs.Math.Seq.{drop-append-add}
use Rattle.bt_ext.specs.declared.ids.Rules.TheVariants.{Free, Bep}
use Rattle.bt_wire.specs.declared.context.Own.{Own}
use Rattle.bt_wire.specs.declared.fault.Reason.TheVariants.{EndInside}
use Rattle.bt_wire.specs.declared.item.Item.{Item}
use Rattle.bt_wire.specs.declared.item.Refusal.{Refusal}
use Rattle.bt_wire.specs.Faults.{said_id, said_length, window_length}
use Rattle.bt_wire.specs.Streams.{Outcome, IsVerdict}
use Rattle.bt_wire.proofs.NumberLaws.{number32-append}
use Rattle.bt_wire.proofs.VerdictLaws.{verdict_only, verdict_stays, verdict_items}
use Rattle.bt_text.specs.declared.ended.Ended.{Ended}
use Rattle.bt_text.specs.Lines.{ended_as, ended_by}
use Rattle.bt_feed.specs.declared.stage.Stage.{Stage}
use Rattle.bt_feed.specs.declared.stage.Stage.TheVariants as stage
use Rattle.bt_feed.specs.Stages.{number_of, limit_of, Spells, with_rules}
use Rattle.bt_feed.specs.Feeds.{FeedState}
use Rattle.bt_feed.specs.Transcripts.{with_items}
use Rattle.bt_judge.specs.Holes.{Holed, Fills, with_zeros, without_blocks, AreAlike, IsAlike, MayBeAny, MayMiss, Shows, IsStandingOf, IsToldOf}
use Rattle.bt_judge.specs.Holes.{lacked_by, lacked, unless_refused, free_after, free_by, free_of, MayBeAnyByBoth, AreJudgedOver}
use Rattle.bt_judge.specs.Judges.{under, IsFree, AreJudged}
use Rattle.bt_judge.specs.Readings.{ReadingState, reading_state, IsJudged, IsTold, IsStanding}
use Rattle.bt_judge.specs.declared.judge.Judge.{Judge}
use Rattle.bt_judge.proofs.Blocks.{IsSameHeader, outcome_like}
use Rattle.bt_judge.proofs.Both.{free_now}
use Rattle.bt_judge.proofs.ByRules.{spells_comes, spells_free, limit_free}
use Rattle.bt_judge.proofs.Peeling.{peel}

-- ---- alike

alike_self : (v : Outcome) → IsAlike v v
alike_self v = record { items = refl; refusal = refl; number = refl; order = refl; start = refl; tail = refl }

alike_flipped : (v w : Outcome) → IsAlike v w → IsAlike w v
alike_flipped v w h = record {
  items = sym h.items;
  refusal = sym h.refusal;
  number = sym h.number;
  order = sym h.order;
  start = sym h.start;
  tail = sym h.tail;
}

alike_then : (u v w : Outcome) → IsAlike u v → IsAlike v w → IsAlike u w
alike_then u v w h k = record {
  items = h.items ∙ k.items;
  refusal = h.refusal ∙ k.refusal;
  number = h.number ∙ k.number;
  order = h.order ∙ k.order;
  start = h.start ∙ k.start;
  tail = h.tail ∙ k.tail;
}

-- after the same items
alike_after : (xs : List (ℕ × Item)) (v w : Outcome) → IsAlike v w → IsAlike (with_items xs v) (with_items xs w)
alike_after xs v w h = record {
  items = map-append _ xs v.items ∙ ap (λ (l : List (ℕ × Item)). without_blocks xs ++ l) h.items ∙ sym (map-append _ xs w.items);
  refusal = h.refusal;
  number = h.number;
  order = h.order;
  start = h.start;
  tail = h.tail;
}

-- ---- the bytes that a message lacks of its block

-- the first bytes of a piece, which lacks n
pub record IsPiece (held : List ℕ) (n : ℕ) : Type 0 where
  pub long : 13 ≤ length held
  pub id : said_id held ≡ 7
  pub size : length held + n ≡ window_length held

piece_by : (b : Bool) (held : List ℕ) → (leb 13 (length held) && eqb (said_id held) 7) ≡ b → 0 < (if b then window_length held - length held else 0)
    → IsPiece held (if b then window_length held - length held else 0)
piece_by true held e some =
    let both = and_parts (leb 13 (length held)) (eqb (said_id held) 7) e in
    record { long = leb-true 13 (length held) both.0; id = eqb-true (said_id held) 7 both.1; size = omega (arith, some) }
piece_by false held e some = absurd (omega (arith, some))

pub is_piece : (held : List ℕ) → 0 < lacked_by held → IsPiece held (lacked_by held)
is_piece held some = piece_by (leb 13 (length held) && eqb (said_id held) 7) held refl some

drop_past : (n : ℕ) (a b : List ℕ) → length a ≤ n → drop n (a ++ b) ≡ drop (n - length a) b
drop_past n a b le =
    let e : n ≡ length a + (n - length a) = omega arith in
    ap (λ (k : ℕ). drop k (a ++ b)) e ∙ drop-append-add a b (n - length a)

same_header : (held x y later : List ℕ) (n : ℕ) → IsPiece held n → length x ≤ n → length y ≡ length x
    → IsSameHeader (held ++ (x ++ later)) (held ++ (y ++ later))
same_header held x y later n p le len =
    let a = held ++ (x ++ later) in
    let d = held ++ (y ++ later) in
    let said : said_length a ≡ said_length held = number32-append held (x ++ later) (omega (arith, p.long)) in
    let past : (z : List ℕ) → length z ≡ length x → drop (window_length a) (held ++ (z ++ later)) ≡ drop (n - length x) later =
    λ z e. drop_past (window_length a) held (z ++ later) (omega (arith, said, p.size))
    ∙ drop_past (window_length a - length held) z later (omega (arith, said, p.size, e, le))
    ∙ ap (λ (k : ℕ). drop k later) (omega (arith, said, p.size, e, le)) in
    record {
      long = omega (arith, p.long, length-append held (x ++ later));
      size = omega (arith, length-append held (x ++ later), length-append held (y ++ later), length-append x later, length-append y later, len);
      front = take-append-le 13 held (y ++ later) p.long ∙ sym (take-append-le 13 held (x ++ later) p.long);
      id = get_or_append_left held (x ++ later) 0 4 (omega (arith, p.long)) ∙ p.id;
      least = omega (arith, said, p.size, p.long);
      rest = past y len ∙ sym (past x refl);
    }

none_any : (own : Own) (b : List ℕ) → MayBeAny own b 0
none_any own b x y later v le len k =
    let P : List ℕ → Type 0 = λ l. IsVerdict own (b ++ (l ++ later)) v in
    let no_x = nil_from_length x (omega (arith, le)) in
    let no_y = nil_from_length y (omega (arith, le, len)) in
    (v, subst P (no_x ∙ sym no_y) k, alike_self v)

block_any : (own : Own) (b : List ℕ) (xs : List (ℕ × Item)) (t : Stage) (held : List ℕ) (n : ℕ) → own.limit < 2 ^ 32 → limit_of t < 2 ^ 32
    → Spells (stage.Handshake own) xs b t held → lacked t held ≡ n → MayBeAny own b n
block_any own b xs (stage.Handshake other) held n lt limit p e =
    let P : ℕ → Type 0 = λ k. MayBeAny own b k in
    subst P e (none_any own b)
block_any own b xs (stage.Message c o s i) held zero lt limit p e = none_any own b
block_any own b xs (stage.Message c o s i) held (suc n) lt limit p e = λ x y later v le len k.
    let P : ℕ → Type 0 = λ j. IsPiece held j in
    let piece : IsPiece held (suc n) = subst P e (is_piece held (omega (arith, e))) in
    let here = peel (stage.Handshake own) xs b (stage.Message c o s i) held (x ++ later) v lt p k in
    let other = outcome_like c o s i (held ++ (x ++ later)) (held ++ (y ++ later)) here.0 limit (same_header held x y later (suc n) piece le len) here.1 in
    let Q : Outcome → Type 0 = λ u. IsAlike u (with_items xs other.0) in (
      with_items xs other.0,
      spells_comes (stage.Handshake own) xs b (stage.Message c o s i) held lt p (y ++ later) other.0 other.1,
      subst Q (sym here.2) (alike_after xs here.0 other.0 other.2),
    )

pub any_of_block : (own : Own) (b : List ℕ) (xs : List (ℕ × Item)) (t : Stage) (held : List ℕ) → own.limit ≤ 1048576 → limit_of t ≤ 1048576
    → Spells (stage.Handshake own) xs b t held → MayBeAny own b (lacked t held)
any_of_block own b xs t held le limit p = block_any own b xs t held (lacked t held) (omega (arith, le)) (omega (arith, limit)) p refl

-- ---- after a refusal

any_after_refusal : (own : Own) (b : List ℕ) (now : Outcome) (n : ℕ) → own.limit ≤ 1048576 → IsVerdict own b now → IsSome now.refusal → MayBeAny own b n
any_after_refusal own b now n le is some x y later v short len k =
    let lt : own.limit < 2 ^ 32 = omega (arith, le) in
    let onto : List ℕ → Outcome = λ z. record now { tail = now.tail ++ z } in
    let same = verdict_only own (b ++ (x ++ later)) v (onto (x ++ later)) lt k (verdict_stays own b (x ++ later) now lt is some) in
    let P : Outcome → Type 0 = λ u. IsAlike u (onto (y ++ later)) in (
      onto (y ++ later),
      verdict_stays own b (y ++ later) now lt is some,
      subst P (sym same) (record {
        items = refl;
        refusal = refl;
        number = refl;
        order = refl;
        start = refl;
        tail = omega (arith, length-append now.tail (x ++ later), length-append now.tail (y ++ later), length-append x later, length-append y later, len);
      }),
    )

-- ---- fewer may be any as well, and then others

pub any_fewer : (own : Own) (b : List ℕ) (n k : ℕ) → k ≤ n → MayBeAny own b n → MayBeAny own b k
any_fewer own b n k le h x y later v short len e = h x y later v (omega (arith, short, le)) len e

any_next : (own : Own) (b : List ℕ) (n : ℕ) → MayBeAny own b (suc n) → MayBeAny own (b ++ 0 ∷ []) n
any_next own b n h x y later v short len k =
    let P : Outcome → List ℕ → Type 0 = λ u l. IsVerdict own l u in
    let w = h (0 ∷ x) (0 ∷ y) later v (omega (arith, short)) (omega (arith, len)) (subst (λ (l : List ℕ). P v l) (append_assoc b (0 ∷ []) (x ++ later)) k) in
    (w.0, subst (λ (l : List ℕ). P w.0 l) (sym (append_assoc b (0 ∷ []) (y ++ later))) w.1, w.2)

-- ---- fillings

-- a filled stream has an outcome like that with zeros
emptied : (own : Own) (z : List ℕ) (h : Holed) (b later : List ℕ) (w : Outcome) → MayMiss own z h → Fills h b → IsVerdict own (z ++ (b ++ later)) w
    → (v : Outcome) × IsVerdict own (z ++ (with_zeros h ++ later)) v × IsAlike v w
emptied own z [] [] later w may fills k = (w, k, alike_self w)
emptied own z [] (y ∷ b) later w may fills k = absurd fills
emptied own z (x ∷ h) [] later w may fills k = absurd fills
emptied own z (Some x ∷ h) (y ∷ b) later w may fills k =
    let P : ℕ → Type 0 = λ i. IsVerdict own (z ++ (i ∷ (b ++ later))) w in
    let Q : Outcome → List ℕ → Type 0 = λ u l. IsVerdict own l u in
    let here = subst (λ (l : List ℕ). Q w l) (sym (append_assoc z (x ∷ []) (b ++ later))) (subst P fills.0 k) in
    let r = emptied own (z ++ x ∷ []) h b later w may fills.1 here in
    (r.0, subst (λ (l : List ℕ). Q r.0 l) (append_assoc z (x ∷ []) (with_zeros h ++ later)) r.1, r.2)
emptied own z (None ∷ h) (y ∷ b) later w may fills k =
    let one = may.0 (y ∷ []) (0 ∷ []) (b ++ later) w (omega arith) refl k in
    let Q : Outcome → List ℕ → Type 0 = λ u l. IsVerdict own l u in
    let r = emptied own (z ++ 0 ∷ []) h b later one.0 may.1 fills.1 (subst (λ (l : List ℕ). Q one.0 l) (sym (append_assoc z (0 ∷ []) (b ++ later))) one.1) in (
      r.0,
      subst (λ (l : List ℕ). Q r.0 l) (append_assoc z (0 ∷ []) (with_zeros h ++ later)) r.1,
      alike_then r.0 one.0 w r.2 (alike_flipped w one.0 one.2),
    )

-- and the other way round
filled : (own : Own) (z : List ℕ) (h : Holed) (b later : List ℕ) (v : Outcome) → MayMiss own z h → Fills h b → IsVerdict own (z ++ (with_zeros h ++ later)) v
    → (w : Outcome) × IsVerdict own (z ++ (b ++ later)) w × IsAlike v w
filled own z [] [] later v may fills k = (v, k, alike_self v)
filled own z [] (y ∷ b) later v may fills k = absurd fills
filled own z (x ∷ h) [] later v may fills k = absurd fills
filled own z (Some x ∷ h) (y ∷ b) later v may fills k =
    let Q : Outcome → List ℕ → Type 0 = λ u l. IsVerdict own l u in
    let r = filled own (z ++ x ∷ []) h b later v may fills.1
    (subst (λ (l : List ℕ). Q v l) (sym (append_assoc z (x ∷ []) (with_zeros h ++ later))) k) in
    let P : ℕ → Type 0 = λ i. IsVerdict own (z ++ (i ∷ (b ++ later))) r.0 in
    (r.0, subst P (sym fills.0) (subst (λ (l : List ℕ). Q r.0 l) (append_assoc z (x ∷ []) (b ++ later)) r.1), r.2)
filled own z (None ∷ h) (y ∷ b) later v may fills k =
    let Q : Outcome → List ℕ → Type 0 = λ u l. IsVerdict own l u in
    let r = filled own (z ++ 0 ∷ []) h b later v may.1 fills.1
    (subst (λ (l : List ℕ). Q v l) (sym (append_assoc z (0 ∷ []) (with_zeros h ++ later))) k) in
    let here = subst (λ (l : List ℕ). Q r.0 l) (append_assoc z (0 ∷ []) (b ++ later)) r.1 in
    let one = may.0 (0 ∷ []) (y ∷ []) (b ++ later) r.0 (omega arith) refl here in
    (one.0, one.1, alike_then v r.0 one.0 r.2 one.2)

pub fillings_are_alike : (own : Own) (h : Holed) (b later : List ℕ) (v : Outcome) → MayMiss own [] h → Fills h b → IsVerdict own (with_zeros h ++ later) v
    → (w : Outcome) × IsVerdict own (b ++ later) w × IsAlike v w
fillings_are_alike own h b later v may fills k = filled own [] h b later v may fills k

front_alike : (xs ys more : List (ℕ × Item)) → AreAlike (xs ++ more) ys → AreAlike xs (take (length xs) ys)
front_alike xs ys more e =
    let n = length xs in
    let front : take n (xs ++ more) ≡ xs = take_at xs more n refl in
    ap without_blocks (sym front) ∙ sym (take-map _ n (xs ++ more)) ∙ ap (take n) e ∙ take-map _ n ys

pub items_are_shown : (own : Own) (h : Holed) (v : Outcome) → own.limit < 2 ^ 32 → MayMiss own [] h → IsVerdict own (with_zeros h) v → Shows own h v.items
items_are_shown own h v lt may is b later w fills k =
    let r = emptied own [] h b later w may fills k in
    let more = verdict_items own (with_zeros h) later v r.0 lt is r.1 in
    let n = length v.items in
    let same = ap without_blocks (sym more.1) ∙ r.2.items in
    (take n w.items, drop n w.items, sym (take-append-drop n w.items), front_alike v.items w.items more.0 same)

-- the outcome with zeros of a filled stream that ends there
ended_zeros : (own : Own) (h : Holed) (b : List ℕ) (w : Outcome) → MayMiss own [] h → Fills h b → IsVerdict own b w
    → (v : Outcome) × IsVerdict own (with_zeros h) v × IsAlike v w
ended_zeros own h b w may fills k =
    let P : Outcome → List ℕ → Type 0 = λ u l. IsVerdict own l u in
    let r = emptied own [] h b [] w may fills (subst (λ (l : List ℕ). P w l) (sym (append-nil b)) k) in
    (r.0, subst (λ (l : List ℕ). P r.0 l) (append-nil (with_zeros h)) r.1, r.2)

pub refusal_is_shown : (own : Own) (h : Holed) (o : Option Refusal) → MayMiss own [] h → IsStanding own (with_zeros h) o → IsStandingOf own h o
refusal_is_shown own h None may stands = λ b w fills k.
    let r = ended_zeros own h b w may fills k in
    sym r.2.refusal ∙ stands r.0 r.1
refusal_is_shown own h (Some refusal) may stands = λ b later w fills k.
    let r = emptied own [] h b later w may fills k in
    sym r.2.refusal ∙ stands later r.0 r.1

-- ---- what follows

miss_both : (own : Own) (z : List ℕ) (h k : Holed) → MayMiss own z h → MayMiss own (z ++ with_zeros h) k → MayMiss own z (h ++ k)
miss_both own z [] k p q = let P : List ℕ → Type 0 = λ l. MayMiss own l k in subst P (append-nil z) q
miss_both own z (Some x ∷ h) k p q =
    let P : List ℕ → Type 0 = λ l. MayMiss own l k in
    miss_both own (z ++ x ∷ []) h k p (subst P (sym (append_assoc z (x ∷ []) (with_zeros h))) q)
miss_both own z (None ∷ h) k p q =
    let P : List ℕ → Type 0 = λ l. MayMiss own l k in
    (p.0, miss_both own (z ++ 0 ∷ []) h k p.1 (subst P (sym (append_assoc z (0 ∷ []) (with_zeros h))) q))

known : (own : Own) (z b : List ℕ) → MayMiss own z (map Some b)
known own z [] = tt
known own z (x ∷ b) = known own (z ++ x ∷ []) b

missing : (own : Own) (z : List ℕ) (n : ℕ) → MayBeAny own z n → MayMiss own z (replicate n None)
missing own z zero h = tt
missing own z (suc n) h = (any_fewer own z (suc n) 1 (omega arith) h, missing own (z ++ 0 ∷ []) n (any_next own z n h))

pub known_follow : (own : Own) (h : Holed) (b : List ℕ) → MayMiss own [] h → MayMiss own [] (h ++ map Some b)
known_follow own h b p = miss_both own [] h (map Some b) p (known own (with_zeros h) b)

pub missing_follow : (own : Own) (h : Holed) (n : ℕ) → MayMiss own [] h → MayBeAny own (with_zeros h) n → MayMiss own [] (h ++ replicate n None)
missing_follow own h n p q = miss_both own [] h (replicate n None) p (missing own (with_zeros h) n q)

known_zeros : (b : List ℕ) → with_zeros (map Some b) ≡ b
known_zeros [] = refl
known_zeros (x ∷ b) = ap (λ (l : List ℕ). x ∷ l) (known_zeros b)

missing_zeros : (n : ℕ) → with_zeros (replicate n None) ≡ replicate n 0
missing_zeros zero = refl
missing_zeros (suc n) = ap (λ (l : List ℕ). 0 ∷ l) (missing_zeros n)

pub zeros_known : (h : Holed) (b : List ℕ) → with_zeros (h ++ map Some b) ≡ with_zeros h ++ b
zeros_known h b = map-append _ h (map Some b) ∙ ap (λ (l : List ℕ). with_zeros h ++ l) (known_zeros b)

pub zeros_missing : (h : Holed) (n : ℕ) → with_zeros (h ++ replicate n None) ≡ with_zeros h ++ replicate n 0
zeros_missing h n = map-append _ h (replicate n None) ∙ ap (λ (l : List ℕ). with_zeros h ++ l) (missing_zeros n)

-- ---- of a reading, and of a judge

pub any_refused : (own : Own) (b : List ℕ) (xs : List (ℕ × Item)) (s : ReadingState) (n : ℕ) → IsSome s.refused → IsJudged own b xs s → MayBeAny own b n
any_refused own b xs s n some j = any_after_refusal own b j.now n j.limit j.is (subst (λ (o : Option Refusal). IsSome o) (sym j.refusal) some)

any_by : (own : Own) (b : List ℕ) (xs : List (ℕ × Item)) (f : FeedState) (o : Option Refusal) → IsJudged own b xs (reading_state f o)
    → MayBeAny own b (free_after (reading_state f o))
any_by own b xs f None j = let held = j.held refl in any_of_block own b xs f.stage f.held j.limit held.limit held.read
any_by own b xs f (Some r) j = any_refused own b xs (reading_state f (Some r)) (2 ^ 64 - 1) refl j

pub reading_any : (own : Own) (b : List ℕ) (xs : List (ℕ × Item)) (s : ReadingState) → IsJudged own b xs s → MayBeAny own b (free_after s)
reading_any own b xs s j = any_by own b xs s.feed s.refused j

pub lacked_message : (t : Stage) (held : List ℕ) → number_of t ≢ 0 → lacked t held ≡ lacked_by held
lacked_message (stage.Handshake own) held some = absurd (some refl)
lacked_message (stage.Message c o s n) held some = refl

lacked_free : (t : Stage) (held : List ℕ) → lacked (with_rules Free t) held ≡ lacked t held
lacked_free (stage.Handshake own) held = refl
lacked_free (stage.Message c o s n) held = refl

any_free : (own : Own) (b : List ℕ) (ys : List (ℕ × Item)) (f : FeedState) → IsJudged (under Bep own) b ys (reading_state f None)
    → MayBeAny (under Free own) b (lacked f.stage f.held)
any_free own b ys f j =
    let held = j.held refl in
    let limit = held.limit in
    let P : ℕ → Type 0 = λ n. MayBeAny (under Free own) b n in
    let free = spells_free (stage.Handshake (under Bep own)) ys b f.stage f.held held.read in
    subst P (lacked_free f.stage f.held)
    (any_of_block (under Free own) b ys (with_rules Free f.stage) f.held j.limit (omega (arith, limit_free f.stage, limit)) free)

judge_by : (own : Own) (b : List ℕ) (xs ys : List (ℕ × Item)) (bep : ReadingState) (o : Option ReadingState) → IsJudged (under Bep own) b ys bep
    → IsFree own b xs ys bep o → MayBeAnyByBoth own b (free_by bep o)
judge_by own b xs ys bep None j h =
    let f = bep.feed in
    let same : free_after bep ≡ lacked f.stage f.held = ap (λ (o : Option Refusal). unless_refused o (lacked f.stage f.held)) h.0 in
    let P : ℕ → Type 0 = λ n. MayBeAny (under Free own) b n in
    let Q : Option Refusal → Type 0 = λ o. IsJudged (under Bep own) b ys (reading_state f o) in
    (subst P (sym same) (any_free own b ys f (subst Q h.0 j)), reading_any (under Bep own) b ys bep j)
judge_by own b xs ys bep (Some free) j h = (
  reading_any (under Free own) b xs free h.1,
  any_refused (under Bep own) b ys bep (free_after free) h.0 j,
)

pub judge_any : (own : Own) (b : List ℕ) (xs ys : List (ℕ × Item)) (j : Judge) → AreJudged own b xs ys j → MayBeAnyByBoth own b (free_of j)
judge_any own b xs ys j h = judge_by own b xs ys j.bep j.free h.bep h.free

-- ---- over holes

pub known_are_taken : (own : Own) (h : Holed) (xs ys zs ws : List (ℕ × Item)) (b : List ℕ) (j k : Judge) → AreJudgedOver own h xs ys j
    → AreJudged own (with_zeros h ++ b) zs ws k → AreJudgedOver own (h ++ map Some b) zs ws k
known_are_taken own h xs ys zs ws b j k p q =
    let P : List ℕ → Type 0 = λ l. AreJudged own l zs ws k in
    record {
      judged = subst P (sym (zeros_known h b)) q;
      free = known_follow (under Free own) h b p.free;
      bep = known_follow (under Bep own) h b p.bep;
    }

pub missing_are_passed : (own : Own) (h : Holed) (xs ys zs ws : List (ℕ × Item)) (n : ℕ) (j k : Judge) → AreJudgedOver own h xs ys j → n ≤ free_of j
    → AreJudged own (with_zeros h ++ replicate n 0) zs ws k → AreJudgedOver own (h ++ replicate n None) zs ws k
missing_are_passed own h xs ys zs ws n j k p le q =
    let P : List ℕ → Type 0 = λ l. AreJudged own l zs ws k in
    let z = with_zeros h in
    let most = free_of j in
    let any = judge_any own z xs ys j p.judged in
    record {
      judged = subst P (sym (zeros_missing h n)) q;
      free = missing_follow (under Free own) h n p.free (any_fewer (under Free own) z most n le any.0);
      bep = missing_follow (under Bep own) h n p.bep (any_fewer (under Bep own) z most n le any.1);
    }

pub judged_are_shown : (own : Own) (h : Holed) (xs ys : List (ℕ × Item)) (j : Judge) → AreJudgedOver own h xs ys j
    → Shows (under Free own) h xs × Shows (under Bep own) h ys
judged_are_shown own h xs ys j p =
    let bep = p.judged.bep in
    let limit = bep.limit in
    let lt : own.limit < 2 ^ 32 = omega (arith, limit) in
    let free = free_now own (with_zeros h) xs ys j p.judged in
    let P : Own → List (ℕ × Item) → Type 0 = λ o l. Shows o h l in (
      subst (λ (l : List (ℕ × Item)). P (under Free own) l) free.items (items_are_shown (under Free own) h free.now lt p.free free.is),
      subst (λ (l : List (ℕ × Item)). P (under Bep own) l) bep.items (items_are_shown (under Bep own) h bep.now lt p.bep bep.is),
    )

-- ---- the end

fills_length : (h : Holed) (b : List ℕ) → Fills h b → length (with_zeros h) ≡ length b
fills_length [] [] f = refl
fills_length [] (y ∷ b) f = absurd f
fills_length (x ∷ h) [] f = absurd f
fills_length (Some x ∷ h) (y ∷ b) f = ap suc (fills_length h b f.1)
fills_length (None ∷ h) (y ∷ b) f = ap suc (fills_length h b f.1)

abbrev at_end : Option Refusal → ℕ → ℕ → ℕ → Option Refusal
at_end o number start k =
    elim o [ Some r ↦ Some r | None ↦ if not (eqb number 0) && eqb k 0 then None else Some (record { message = number; at = start + k; reason = EndInside }) ]

same_end : (v w : Outcome) (n : ℕ) → IsAlike v w → ended_as v n ≡ ended_as w n
same_end v w n h =
    ap (λ (o : Option Refusal). ended_by (at_end o v.number v.start (length v.tail)) v.number n) h.refusal
    ∙ ap (λ (k : ℕ). ended_by (at_end w.refusal k v.start (length v.tail)) k n) h.number
    ∙ ap (λ (k : ℕ). ended_by (at_end w.refusal w.number k (length v.tail)) w.number n) h.start
    ∙ ap (λ (k : ℕ). ended_by (at_end w.refusal w.number w.start k) w.number n) h.tail

pub end_is_shown : (own : Own) (h : Holed) (xs : List (ℕ × Item)) (e : Ended) → own.limit < 2 ^ 32 → MayMiss own [] h → IsTold own (with_zeros h) xs e
    → IsToldOf own h e
end_is_shown own h xs e lt may t b w fills is =
    let r = ended_zeros own h b w may fills is in
    let one : t.0 ≡ r.0 = verdict_only own (with_zeros h) t.0 r.0 lt t.1 r.1 in
    t.3 ∙ ap (λ (v : Outcome). ended_as v (length (with_zeros h))) one ∙ ap (ended_as r.0) (fills_length h b fills) ∙ same_end r.0 w (length b) r.2
