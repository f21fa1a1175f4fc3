use Rattle.std.proofs.Common.{◌≡◌, ℕ, suc, ◌+◌, ◌<◌, ◌≤◌, List, [], ◌∷◌, ◌++◌, length, get_or, drop, sym, ap, ◌∙◌, add-one, drop-cons, append_assoc}
use Rattle.std.proofs.lemmas.List.{append-nil, drop_all}
use Rattle.bt_bencode.specs.Bencoding.{ben, ben_all, ben_pairs, ben_string}
use Rattle.bt_bencode.specs.Views.{tree_of, trees_of, pairs_of}
use Rattle.bt_bencode.specs.declared.tree.Value.{Value}
use Rattle.bt_bencode.proofs.spelling.+push_value.Goals as goal

-- one more value of a list
item_step : (items : List Value) (i : ℕ) (v : Value) (out done : List ℕ) → i < length items → v ≡ get_or items i v
    → out ++ ben_all (trees_of (drop i items)) ≡ done → (out ++ ben (tree_of v)) ++ ben_all (trees_of (drop (i + 1) items)) ≡ done
item_step items i v out done lt is e =
    let d : drop i items ≡ v ∷ drop (i + 1) items = rw add-one (drop-cons items i v lt ∙ ap (λ (x : Value). x ∷ drop (suc i) items) (sym is)) in
    append_assoc out (ben (tree_of v)) (ben_all (trees_of (drop (i + 1) items))) ∙ (rw d at e)

-- one more pair of a dictionary
pair_step : (items : List (List ℕ × Value)) (i : ℕ) (p : List ℕ × Value) (out done : List ℕ) → i < length items → p ≡ get_or items i p
    → out ++ ben_pairs (pairs_of (drop i items)) ≡ done
    → ((out ++ ben_string p.0) ++ ben (tree_of p.1)) ++ ben_pairs (pairs_of (drop (i + 1) items)) ≡ done
pair_step items i p out done lt is e =
    let d : drop i items ≡ p ∷ drop (i + 1) items =
    rw add-one (drop-cons items i p lt ∙ ap (λ (x : List ℕ × Value). x ∷ drop (suc i) items) (sym is)) in
    let left : List ℕ = ben_pairs (pairs_of (drop (i + 1) items)) in
    append_assoc (out ++ ben_string p.0) (ben (tree_of p.1)) left ∙ append_assoc out (ben_string p.0) (ben (tree_of p.1) ++ left) ∙ (rw d at e)

-- the first byte, the items and the `e`
closed : (old out body : List ℕ) (first : ℕ) → out ++ [] ≡ (old ++ first ∷ []) ++ body → out ++ 101 ∷ [] ≡ old ++ (first ∷ (body ++ 101 ∷ []))
closed old out body first e =
    ap (λ (x : List ℕ). x ++ 101 ∷ []) (sym (append-nil out) ∙ e) ∙ append_assoc (old ++ first ∷ []) body (101 ∷ [])
    ∙ append_assoc old (first ∷ []) (body ++ 101 ∷ [])

list_closed : (items : List Value) (i : ℕ) (old out body : List ℕ) (first : ℕ) → length items ≤ i
    → out ++ ben_all (trees_of (drop i items)) ≡ (old ++ first ∷ []) ++ body → out ++ 101 ∷ [] ≡ old ++ (first ∷ (body ++ 101 ∷ []))
list_closed items i old out body first le e = closed old out body first (rw (drop_all i items le) at e)

dict_closed : (items : List (List ℕ × Value)) (i : ℕ) (old out body : List ℕ) (first : ℕ) → length items ≤ i
    → out ++ ben_pairs (pairs_of (drop i items)) ≡ (old ++ first ∷ []) ++ body → out ++ 101 ∷ [] ≡ old ++ (first ∷ (body ++ 101 ∷ []))
dict_closed items i old out body first le e = closed old out body first (rw (drop_all i items le) at e)

pub push_list-loop-value-preserved : goal.push_list-loop-value-preserved
push_list-loop-value-preserved t c = rw c.in_ok-push_value.ensures (item_step c.deref-value-items.result.now c.loop-value.value-index c.value-item.result
    c.loop-value.out.items ((c.args.out.now.items ++ 108 ∷ []) ++ ben_all c.args.values.now) c.loop-value-test.true c.value-item.is c.loop-value.invariant)

pub push_list-returns : goal.push_list-returns
push_list-returns t c = c.in_ok-push-2.ensures.items ∙ list_closed c.deref-value-items.result.now c.loop-value.value-index c.args.out.now.items
    c.loop-value.out.items (ben_all c.args.values.now) 108 c.loop-value-test.false c.loop-value.invariant

pub push_dict-loop-key-preserved : goal.push_dict-loop-key-preserved
push_dict-loop-key-preserved t c = rw (c.in_ok-push_value.ensures, c.in_ok-push_string.ensures) (pair_step c.deref-key-items.result.now
    c.loop-key.key-index c.loop-key-item.result c.loop-key.out.items ((c.args.out.now.items ++ 100 ∷ []) ++ ben_pairs c.args.pairs.now) c.loop-key-test.true
    c.loop-key-item.is c.loop-key.invariant)

pub push_dict-returns : goal.push_dict-returns
push_dict-returns t c = c.in_ok-push-2.ensures.items ∙ dict_closed c.deref-key-items.result.now c.loop-key.key-index c.args.out.now.items c.loop-key.out.items
    (ben_pairs c.args.pairs.now) 100 c.loop-key-test.false c.loop-key.invariant
