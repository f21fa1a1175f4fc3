-- How far the bytes of the opening are judged.
use Rattle.std.proofs.Common.{◌≡◌, ◌∙◌, ◌≤◌, ℕ, ◌+◌, ◌-◌, ◌^◌, min, max, Bool, true, false, List, [], ◌∷◌, ◌++◌, append-nil, append_assoc, drop, take}
use Rattle.std.proofs.Common.{Option, Some, None, refl, sym, ap, subst, arith, length, length-append, length-drop, length-take}
use Rattle.std.specs.Prelude.{◌&&◌, if◌then◌else◌}
use Rattle.std.proofs.lemmas.Bool.Decides.{nat_tests}
use Rattle.std.proofs.lemmas.List.{take_at, take-take}
use Rattle.bt_feed.specs.Pumps.{Took}
use Rattle.bt_intro.specs.declared.settling.Receiver.{Receiver}
use Rattle.bt_intro.specs.Hellos.{IsFirstHello}
use Rattle.bt_judge.specs.declared.judge.Judge.{Judge}
use Rattle.bt_judge.specs.Judges.{AreJudged}
use Rattle.bt_remarks.specs.declared.events.Side.{Side}
use Rattle.bt_remarks.specs.declared.events.Side.TheVariants.{A, B}
use Rattle.bt_remarks.specs.Said.{other, is_same}
use Rattle.bt_rows.specs.declared.noted.Last.{Last}
use Rattle.bt_wire.specs.declared.item.Item.{Item}
use Rattle.bt_talk.specs.declared.closing.When.{When}
use Rattle.bt_talk.specs.declared.replay.Close.{Close}
use Rattle.bt_talk.specs.declared.replay.Close.TheVariants.{Passed, Ahead}
use Rattle.bt_talk.specs.declared.replay.Replay.{Replay}
use Rattle.bt_talk.specs.declared.rows.Rows.{Rows}
use Rattle.bt_talk.specs.declared.stage.Cut.{Cut}
use Rattle.bt_talk.specs.declared.stage.Judged.{Judged}
use Rattle.bt_talk.specs.declared.watch.Watch.{Watch}
use Rattle.bt_talk.specs.Cuts.{IsCutNow, IsLastIn, IsLastOf, cut_length}
use Rattle.bt_talk.specs.Marks.{AreItemsBy, AreItemsTo, IsKnownTo, upto}
use Rattle.bt_talk.specs.Pasts.{Past}
use Rattle.bt_talk.specs.Receivers.{IsJudgedBy, AreItems}
use Rattle.bt_talk.specs.Replays.{Held, IsJudgedTo, IsReplay, IsReplayBy, IsReplayOf, IsReplayed, IsParted, IsFollowed, IsReached, IsReachedIn, IsTurn}
use Rattle.bt_talk.specs.Replays.{PassesAt, PassesTo, close_length, closes_to, is_passed, with_more}
use Rattle.bt_talk.specs.Shown.{IsSeen, Turn, items_by, no_deeds}
use Rattle.bt_talk.specs.Watching.{IsLast, Watches, notes_of}
use Rattle.bt_talk.proofs.Cuts.{drop_first, take_most}
use Rattle.bt_talk.proofs.Items.{first_only, judged_items}
use Rattle.bt_talk.proofs.Shown.{seen_begin, seen_more, seen_turned}

-- Some of the bytes that are left are judged.
pub judged_on : (p : Past) (start : ℕ) (taken : List ℕ) (xs more : List (ℕ × Item)) (left bytes rest : List ℕ) (j : Judged) (judge : Judge)
    (i : IsJudgedTo p start taken xs left j) (strict : List (ℕ × Item)) → left ≡ bytes ++ rest
    → AreJudged j.receiver.own (taken ++ bytes) (xs ++ more) (i.bep ++ strict) judge
    → IsJudgedTo p start (taken ++ bytes) (xs ++ more) rest (record j { judge = judge })
judged_on p start taken xs more left bytes rest j judge i strict parts judged = record {
  first = i.first;
  whole = i.whole ∙ ap (λ (l : List ℕ). taken ++ l) parts ∙ sym (append_assoc taken bytes rest);
  bep = i.bep ++ strict;
  judged = judged;
}

-- All bytes are judged.
pub judged_all : (p : Past) (start : ℕ) (taken : List ℕ) (xs : List (ℕ × Item)) (j : Judged) (i : IsJudgedTo p start taken xs [] j)
    → (k : IsJudgedBy j.receiver.own p j.judge) × (k.free ≡ xs)
judged_all p start taken xs j i = (
  record {
    start = start;
    first = i.first;
    free = xs;
    bep = i.bep;
    judged = subst (λ (l : List ℕ). AreJudged j.receiver.own l xs i.bep j.judge) (sym (i.whole ∙ append-nil taken)) i.judged;
  },
  refl,
)

-- ---- up to the close

-- Further bytes are judged, on this side of the close.
pub nearer : (p : Past) (receiver : Option Receiver) (cut : Option ℕ) (start : ℕ) (taken taken' : List ℕ) (xs : List (ℕ × Item)) (left left' : List ℕ)
    (judged judged' : Option Held) (close : Close) (w w' : Watch) → ((q : Past) → IsReplayBy q receiver start taken xs left judged
    → (more : List (ℕ × Item)) × IsReplayBy q receiver start taken' (xs ++ more) left' judged' × Took Watches w more w')
    → IsReplayOf p receiver cut start taken xs left judged close
    → (more : List (ℕ × Item)) × IsReplayOf p receiver cut start taken' (xs ++ more) left' judged' close × Took Watches w more w'
nearer p receiver cut start taken taken' xs left left' judged judged' (Passed None) w w' f i = let m = f p i.1 in (m.0, (i.0, m.1), m.2)
nearer p receiver cut start taken taken' xs left left' judged judged' (Passed (Some c)) w w' f i = let m = f p i.1 in (m.0, (i.0, m.1, i.2), m.2)
nearer p receiver cut start taken taken' xs left left' judged judged' (Ahead n after) w w' f i =
    let m = f (upto n p) i.1 in (m.0, (i.0, m.1, i.2), m.2)

-- All up to the close is judged, and what follows it is left.
pub past_close : (p : Past) (n : ℕ) (receiver : Option Receiver) (start : ℕ) (taken : List ℕ) (xs : List (ℕ × Item)) (after : List ℕ) (judged : Option Held)
    → IsFollowed p n after → IsReplayBy (upto n p) receiver start taken xs [] judged → IsReplayBy p receiver start taken xs after judged
past_close p n receiver start taken xs after None f i = i
past_close p n receiver start taken xs after (Some j) f i =
    let k = i.1 in (
      i.0,
      record {
        first = k.first;
        whole = f start k.first ∙ ap (λ (l : List ℕ). l ++ after) (k.whole ∙ append-nil taken);
        bep = k.bep;
        judged = k.judged;
      },
    )

follows : (p : Past) (start n : ℕ) (after : List ℕ) → IsFirstHello p.front start → drop start p.out ≡ drop start (take n p.out) ++ after
    → IsFollowed p n after
follows p start n after first e = λ k f.
    let same = first_only p.front start k first f in
    subst (λ (m : ℕ). drop m p.out ≡ drop m (take n p.out) ++ after) same e

-- No byte is judged.
pub begun : (p : Past) (cut : Option ℕ) (start : ℕ) (left : List ℕ) (j : Held) (close : Close) → IsFirstHello p.front start
    → AreJudged j.value.receiver.own [] [] [] j.value.judge → IsParted start p.out left close → close_length close ≡ cut
    → IsReplayOf p (Some j.value.receiver) cut start [] [] left (Some j) close
begun p cut start left j (Passed None) first judged parts e = (
  sym e,
  (refl, record { first = first; whole = sym parts.1; bep = []; judged = judged }),
)
begun p cut start left j (Passed (Some c)) first judged parts e = absurd (let bad = parts.0 in cc)
begun p cut start left j (Ahead n after) first judged parts e = (
  sym e,
  (refl, record { first = first; whole = sym parts.0; bep = []; judged = judged }),
  follows p start n after.now first (parts.1 ∙ ap (λ (l : List ℕ). l ++ after.now) parts.0),
)

-- Once all is judged the last before the close is known.
pub ended : (p : Past) (receiver : Option Receiver) (cut : Option ℕ) (start : ℕ) (taken : List ℕ) (xs : List (ℕ × Item)) (judged : Option Held)
    (o : Option Cut) → IsReplayOf p receiver cut start taken xs [] judged (Passed o)
    → (cut_length o ≡ cut) × IsReplayBy p receiver start taken xs [] judged × IsCutNow receiver p.front p.out o
ended p receiver cut start taken xs judged None i = (sym i.0, i.1, tt)
ended p receiver cut start taken xs judged (Some c) i = (sym i.0, i.1, i.2)

pub last_to : (p : Past) (start : ℕ) (taken : List ℕ) (xs : List (ℕ × Item)) (j : Judged) (last : Last) (i : IsJudgedTo p start taken xs [] j)
    → IsLastIn j.receiver.own taken last → IsLastOf j.receiver.own p.front p.out last
last_to p start taken xs j last i l = record {
  start = start;
  first = i.first;
  is = subst (λ (b : List ℕ). IsLastIn j.receiver.own b last) (sym (i.whole ∙ append-nil taken)) l;
}

pub unjudged : (p : Past) (cut : Option Cut) → IsReplayOf p None (cut_length cut) 0 [] [] [] None (Passed cut)
unjudged p None = (refl, (refl, refl))
unjudged p (Some c) = (refl, (refl, refl), tt)

-- ---- how far the first bytes reach

reach_none : (start left : ℕ) → IsReachedIn start 0 0 left
reach_none start left = omega arith

parted_length : (start m : ℕ) (out left after : List ℕ) → left ≡ drop start (take m out) → drop start out ≡ left ++ after
    → IsReachedIn start m (0 + length left) (length after)
parted_length start m out left after e f =
    omega (arith, ap length e, ap length f, length-drop start (take m out), length-take m out, length-drop start out, length-append left after)

pub begun_reached : (start : ℕ) (out left : List ℕ) (close : Close) → IsParted start out left close → IsReached start 0 [] left close
begun_reached start out left (Passed cut) i = reach_none start (length left)
begun_reached start out left (Ahead m after) i =
    (omega arith, reach_none start (length left), parted_length start m out left after.now i.0 i.1)

reach_more : (start n k at taken left bytes rest : ℕ) → at ≡ min (start + taken) (2 ^ 64 - 1) → k ≤ 2 ^ 64 - 1 → left ≡ bytes + rest
    → bytes ≡ min (k - at) left → IsReachedIn start n taken left → IsReachedIn start (max k n) (taken + bytes) rest
reach_more start n k at taken left bytes rest e le f g i = omega (arith, e, le, f, g, i)

-- The bytes up to a length are taken too.
pub reached_more : (start n k at : ℕ) (taken left bytes rest : List ℕ) (close : Close) → at ≡ min (start + length taken) (2 ^ 64 - 1) → k ≤ 2 ^ 64 - 1
    → left ≡ bytes ++ rest → length bytes ≡ min (k - at) (length left) → closes_to k close ≡ false → IsReached start n taken left close
    → IsReached start (max k n) (taken ++ bytes) rest close
reached_more start n k at taken left bytes rest (Passed cut) e le f g short i =
    let parts : length left ≡ length bytes + length rest = ap length f ∙ length-append bytes rest in
    subst (λ (l : ℕ). IsReachedIn start (max k n) l (length rest)) (sym (length-append taken bytes))
    (reach_more start n k at (length taken) (length left) (length bytes) (length rest) e le parts g i)
reached_more start n k at taken left bytes rest (Ahead m after) e le f g short i =
    let parts : length left ≡ length bytes + length rest = ap length f ∙ length-append bytes rest in
    let within : max k n ≤ m = grind (arith, nat_tests, short, i.0) in
    let sum : length taken + length left ≡ length (taken ++ bytes) + length rest = omega (arith, parts, length-append taken bytes) in (
      within,
      subst (λ (l : ℕ). IsReachedIn start (max k n) l (length rest)) (sym (length-append taken bytes))
          (reach_more start n k at (length taken) (length left) (length bytes) (length rest) e le parts g i.1),
      subst (λ (l : ℕ). IsReachedIn start m l (length after.now)) sum i.2,
    )

-- All up to the close is taken.
pub reached_close : (start m : ℕ) (taken left after : List ℕ) → IsReachedIn start m (length taken + length left) (length after)
    → IsReachedIn start m (length (taken ++ left)) (length after)
reached_close start m taken left after i = subst (λ (l : ℕ). IsReachedIn start m l (length after)) (sym (length-append taken left)) i

pub place_more : (start at at' : ℕ) (taken bytes : List ℕ) → at ≡ min (start + length taken) (2 ^ 64 - 1) → at' ≡ min (at + length bytes) (2 ^ 64 - 1)
    → at' ≡ min (start + length (taken ++ bytes)) (2 ^ 64 - 1)
place_more start at at' taken bytes e f = omega (arith, e, f, length-append taken bytes)

first_part : (k : ℕ) (taken left : List ℕ) → length taken ≡ min k (length taken + length left) → take k (taken ++ left) ≡ taken
first_part k taken left e =
    sym (take_most k (taken ++ left)) ∙ ap (λ (m : ℕ). take (min k m) (taken ++ left)) (length-append taken left)
    ∙ take_at taken left (min k (length taken + length left)) e

-- What is taken are the first bytes from the handshake on.
by_first : (p : Past) (n : ℕ) (receiver : Option Receiver) (start : ℕ) (taken : List ℕ) (xs : List (ℕ × Item)) (left : List ℕ) (judged : Option Held)
    → IsReachedIn start n (length taken) (length left) → IsReplayBy p receiver start taken xs left judged
    → IsReplayBy (upto n p) receiver start taken xs [] judged
by_first p n receiver start taken xs left None e i = i
by_first p n receiver start taken xs left (Some j) e i =
    let k = i.1 in (
      i.0,
      record {
        first = k.first;
        whole = drop_first start n p.out ∙ ap (λ (l : List ℕ). take (n - start) l) k.whole ∙ first_part (n - start) taken left e ∙ sym (append-nil taken);
        bep = k.bep;
        judged = k.judged;
      },
    )

reached_of : (p : Past) (receiver : Option Receiver) (cut : Option ℕ) (n start : ℕ) (taken : List ℕ) (xs : List (ℕ × Item)) (left : List ℕ)
    (judged : Option Held) (close : Close) → IsReached start n taken left close → IsReplayOf p receiver cut start taken xs left judged close
    → IsReplayBy (upto n p) receiver start taken xs [] judged
reached_of p receiver cut n start taken xs left judged (Passed None) e i = by_first p n receiver start taken xs left judged e i.1
reached_of p receiver cut n start taken xs left judged (Passed (Some c)) e i = by_first p n receiver start taken xs left judged e i.1
reached_of p receiver cut n start taken xs left judged (Ahead m after) e i =
    subst (λ (l : List ℕ). IsReplayBy (record p { out = l }) receiver start taken xs [] judged) (take-take n m p.out e.0)
    (by_first (upto m p) n receiver start taken xs left judged e.1 i.1)

-- The first bytes of the side are judged.
pub reached : (p : Past) (receiver : Option Receiver) (cut : Option ℕ) (n : ℕ) (xs : List (ℕ × Item)) (r : Replay) (i : IsReplay p receiver cut n xs r)
    → IsReplayBy (upto n p) receiver i.start i.taken xs [] r.judged
reached p receiver cut n xs r i = reached_of p receiver cut n i.start i.taken xs r.rest.now r.judged r.close i.reached i.is

items_by_all : (p : Past) (receiver : Option Receiver) (start : ℕ) (taken : List ℕ) (xs : List (ℕ × Item)) (judged : Option Held)
    → IsReplayBy p receiver start taken xs [] judged → AreItemsBy receiver p xs
items_by_all p receiver start taken xs None i = subst (λ (r : Option Receiver). AreItemsBy r p xs) (sym i.0) i.1
items_by_all p receiver start taken xs (Some j) i =
    let all = judged_all p start taken xs j.value i.1 in
    subst (λ (r : Option Receiver). AreItemsBy r p xs) (sym i.0)
    (subst (λ (l : List (ℕ × Item)). AreItems j.value.receiver.own p l) all.1 (judged_items j.value.receiver.own p j.value.judge all.0))

-- These are the items of the side's first bytes.
pub items_to : (p : Past) (receiver : Option Receiver) (cut : Option ℕ) (n : ℕ) (xs : List (ℕ × Item)) (r : Replay) → IsReplay p receiver cut n xs r
    → AreItemsTo receiver n p xs
items_to p receiver cut n xs r i = items_by_all (upto n p) receiver i.start i.taken xs r.judged (reached p receiver cut n xs r i)

and_false : (whole : Bool) → (whole && false) ≡ false
and_false true = refl
and_false false = refl

-- Bytes of the other side were missing, or they weren't.
pub known_and : (receiver : Option Receiver) (n : ℕ) (p : Past) (whole known : Bool) → IsKnownTo receiver n p true known
    → IsKnownTo receiver n p whole (whole && known)
known_and None n p whole known i = ap (λ (b : Bool). whole && b) i ∙ and_false whole
known_and (Some r) n p whole known i = (i.0, i.1, ap (λ (b : Bool). whole && b) i.2)

pub short_passed : (n : ℕ) (close : Close) → is_passed close ≡ true → closes_to n close ≡ false
short_passed n (Passed cut) e = refl
short_passed n (Ahead m after) e = absurd (cc)

pub passed_at : (n : ℕ) (close : Close) → is_passed close ≡ true → PassesAt close n n
passed_at n (Passed cut) e = refl
passed_at n (Ahead m after) e = absurd (cc)

-- The close comes up to a length; so this is reached no sooner.
pub passes_to : (k n m : ℕ) (close : Close) → closes_to k close ≡ true → PassesAt close n m → PassesTo k n m
passes_to k n m (Passed cut) e i = absurd (cc)
passes_to k n m (Ahead j after) e i =
    let within : j ≤ k = grind (arith, nat_tests, e) in omega (arith, within, i.0, i.1)

-- ---- turns

same_side : {X : Type 0} → (s : Side) (x y : X) → (if is_same s s then x else y) ≡ x
same_side A x y = refl
same_side B x y = refl

not_same : {X : Type 0} → (s : Side) (x y : X) → (if is_same s (other s) then x else y) ≡ y
not_same A x y = refl
not_same B x y = refl

pub items_mine : (t : Turn) (before : List Turn) → items_by t.side (t ∷ before) ≡ items_by t.side before ++ t.items
items_mine t before = same_side t.side (items_by t.side before ++ t.items) (items_by t.side before)

pub items_others : (t : Turn) (before : List Turn) → items_by (other t.side) (t ∷ before) ≡ items_by (other t.side) before
items_others t before = not_same t.side (items_by (other t.side) before ++ t.items) (items_by (other t.side) before)

pub took_turn : (t : Turn) (more : List (ℕ × Item)) (w w' : Watch) → Took Watches w more w' → IsTurn t w → IsTurn t w'
took_turn t [] w w' e i = subst (λ (k : Watch). IsTurn t k) (sym e) i
took_turn t (x ∷ xs) w w' took i =
    took_turn t xs took.0 w' took.2
    (record { side = took.1.side ∙ i.side; known = took.1.known ∙ i.known; when = took.1.when ∙ i.when; deeds = i.deeds })

-- the last item of the side whose turn it is
pub last_after : (since : Rows) (before : List Turn) (t : Turn) (more : List (ℕ × Item)) (w w' : Watch) → IsTurn t w → Took Watches w more w'
    → IsSeen since (t ∷ before) w → IsLast ((items_by t.side before ++ t.items) ++ more) (notes_of w'.side w').last
last_after since before t more w w' turn took i =
    let now = took_turn t more w w' took turn in
    let seen = seen_more since before t more w w' turn took i in
    let all : items_by t.side (with_more t more ∷ before) ≡ (items_by t.side before ++ t.items) ++ more =
    items_mine (with_more t more) before ∙ sym (append_assoc (items_by t.side before) t.items more) in
    subst (λ (xs : List (ℕ × Item)). IsLast xs (notes_of w'.side w').last) all
    (subst (λ (s : Side). IsLast (items_by t.side (with_more t more ∷ before)) (notes_of s w').last) (sym now.side) (seen.watched.notes t.side).last)

-- A turn begins.
pub begin : (since : Rows) (p : Past) (receiver : Option Receiver) (cut : Option ℕ) (n : ℕ) (before : List Turn) (side : Side) (known : Bool) (when : When)
    (r : Replay) (w v : Watch) → v ≡ record w { side = side; known = known; when = when } → IsReplay p receiver cut n (items_by side before) r
    → IsSeen since before w → IsReplayed since p receiver cut n before (record { side = side; known = known; when = when; items = []; deeds = no_deeds }) r v
begin since p receiver cut n before side known when r w v e i seen = record {
  is = subst (λ (l : List (ℕ × Item)). IsReplay p receiver cut n l r) (sym (append-nil (items_by side before))) i;
  turn = record {
    side = ap (λ (k : Watch). k.side) e;
    known = ap (λ (k : Watch). k.known) e;
    when = ap (λ (k : Watch). k.when) e;
    deeds = refl;
  };
  seen = seen_begin since side known when before v (seen_turned since side known when before w v e seen);
}

-- Nothing was judged.
pub stays : (since : Rows) (p : Past) (receiver : Option Receiver) (cut : Option ℕ) (n : ℕ) (before : List Turn) (t : Turn) (r : Replay) (w : Watch)
    → IsReplayed since p receiver cut n before t r w → IsReplayed since p receiver cut n before (with_more t []) r w
stays since p receiver cut n before t r w i =
    subst (λ (l : List (ℕ × Item)). IsReplayed since p receiver cut n before (record t { items = l }) r w) (sym (append-nil t.items)) i

-- Further items were judged in a turn.
pub replayed : (since : Rows) (p : Past) (receiver : Option Receiver) (cut : Option ℕ) (n : ℕ) (before : List Turn) (t : Turn) (more : List (ℕ × Item))
    (r : Replay) (w w' : Watch) → IsTurn t w → IsReplay p receiver cut n ((items_by t.side before ++ t.items) ++ more) r → Took Watches w more w'
    → IsSeen since (t ∷ before) w → IsReplayed since p receiver cut n before (with_more t more) r w'
replayed since p receiver cut n before t more r w w' turn i took seen =
    let now = took_turn t more w w' took turn in
    record {
      is = subst (λ (l : List (ℕ × Item)). IsReplay p receiver cut n l r) (append_assoc (items_by t.side before) t.items more) i;
      turn = record { side = now.side; known = now.known; when = now.when; deeds = now.deeds };
      seen = seen_more since before t more w w' turn took seen;
    }
