-- The entries after one is put, turned or removed.
use Rattle.std.proofs.Common.{◌≡◌, ℕ, ◌+◌, ◌≤◌, Result, Ok, Err, Bool, true, false, ◌&&◌, cond, length, List, Option, Some, refl, sym, ◌∙◌}
use Rattle.std.proofs.Common.{ap, arith, unwrap_or}
use Rattle.std.specs.Prelude.{◌==◌, is_some, OnErr}
use Rattle.std.specs.Option.{option_map}
use Rattle.std.specs.List.{sum_by}
use Rattle.std.specs.List.Sorted.{IsStrictlySortedBy}
use Rattle.std.specs.Cmp.{IsTotalOrder, IsEquivalence, then_total, on_total, nat_cmp_total, eq_by_cmp_equiv}
use Rattle.std.specs.Ordering.{is_eq, nat_cmp, eq_by_cmp}
use Rattle.std.specs.Map.{lookup, keys_of, values_of, set_value, remove_entry}
use Rattle.std.specs.BTreeMap.{is_at, insert_entry}
use Rattle.std.proofs.lemmas.Map.{lookup-set_value, length-set_value}
use Rattle.std.proofs.lemmas.Map.Entries.{sum_by-insert_entry, sum_by-set_value, sum_by-remove_entry}
use Rattle.bt_packet.specs.declared.address.Address.{Address}
use Rattle.bt_packet.specs.contracts.address.AddressOrd.TheImpl.Laws as order_laws
use Rattle.bt_order.specs.Links.{counted}
use Rattle.bt_utp.specs.declared.connection.Connection.{Connection}
use Rattle.bt_utp.specs.declared.entries.Entry.{Entry}
use Rattle.bt_utp.specs.Flows.{same_address}
use Rattle.bt_utp.specs.States.{order}
use Rattle.bt_utp.specs.Channels.{is_key}
use Rattle.bt_utp.specs.Entries.{key_order}
use Rattle.bt_utp.proofs.Ends.{then_test, key_test}
use Rattle.bt_utp.proofs.Counting.{test_is}

abbrev Key : Type 0
Key = Address × Address × ℕ

abbrev pub weight : Entry → ℕ
weight e = counted e.link

keys_total : IsTotalOrder key_order
keys_total = then_total (then_total (on_total (λ t. t.0) order_laws.total-law) (on_total (λ t. t.1) order_laws.total-law)) (on_total (λ t. t.2) nat_cmp_total)

and_assoc : (a b c : Bool) → ((a && b) && c) ≡ (a && (b && c))
and_assoc true b c = refl
and_assoc false b c = refl

pub key_is : (a b : Address) (id : ℕ) (x y : Address) (i : ℕ) → is_eq (key_order (a, b, id) (x, y, i)) ≡ is_key a b id x y i
key_is a b id x y i =
    then_test (order (a, b) (x, y)) (nat_cmp id i)
    ∙ ap (λ t. t && is_eq (nat_cmp id i)) (key_test a b x y)
    ∙ ap (λ t. (same_address a x && same_address b y) && t) (test_is id i)
    ∙ and_assoc (same_address a x) (same_address b y) (id == i)

laws : IsEquivalence (eq_by_cmp key_order)
laws = eq_by_cmp_equiv keys_total

abbrev pub key_of : Connection → Key
key_of k = (k.initiator, k.acceptor, k.id)

-- what is held after an entry was put in which nothing is, or after one was removed
pub replaced : (k : Key) (w : Entry) (es fs : List (Key × Entry)) (o : Option Entry) → IsStrictlySortedBy key_order (keys_of es)
    → o ≡ lookup (is_at (key_order k)) es → fs ≡ insert_entry key_order es k w → weight w ≡ 0
    → sum_by weight (values_of fs) + unwrap_or (option_map weight o) 0 ≡ sum_by weight (values_of es)
replaced k w es fs o sorted is put none =
    ap (λ l. sum_by weight (values_of l) + unwrap_or (option_map weight o) 0) put
    ∙ ap (λ p. sum_by weight (values_of (insert_entry key_order es k w)) + unwrap_or (option_map weight p) 0) is
    ∙ omega (arith, sum_by-insert_entry weight keys_total es k w sorted, none)

pub removed : (k : Key) (es fs : List (Key × Entry)) (o : Option Entry) → o ≡ lookup (is_at (key_order k)) es → fs ≡ remove_entry (is_at (key_order k)) es
    → sum_by weight (values_of fs) + unwrap_or (option_map weight o) 0 ≡ sum_by weight (values_of es)
removed k es fs o is gone =
    ap (λ l. sum_by weight (values_of l) + unwrap_or (option_map weight o) 0) gone
    ∙ ap (λ p. sum_by weight (values_of (remove_entry (is_at (key_order k)) es)) + unwrap_or (option_map weight p) 0) is
    ∙ sum_by-remove_entry weight (is_at (key_order k)) es

-- An entry was written in place of another.
pub record IsWritten (k : Connection) (e e' : Entry) (es fs : List (Key × Entry)) : Type 0 where
  pub there : lookup (is_at (key_order (key_of k))) es ≡ Some e
  pub puts : (x y : Address) (i : ℕ) → lookup (is_at (key_order (x, y, i))) fs
      ≡ cond (is_key k.initiator k.acceptor k.id x y i) (Some e') (lookup (is_at (key_order (x, y, i))) es)
  pub live : length fs ≡ length es
  pub least : weight e ≤ sum_by weight (values_of es)
  pub sums : sum_by weight (values_of fs) + weight e ≡ sum_by weight (values_of es) + weight e'

pub written : (k : Connection) (e e' : Entry) (es fs : List (Key × Entry)) → Some e ≡ lookup (is_at (key_order (key_of k))) es
    → fs ≡ set_value (is_at (key_order (key_of k))) es e' → IsWritten k e e' es fs
written k e e' es fs is same =
    let test = is_at (key_order (key_of k)) in
    let there : lookup (is_at (key_order (key_of k))) es ≡ Some e = sym is in
    record {
      there = there;
      puts = λ x y i. ap (lookup (is_at (key_order (x, y, i)))) same
          ∙ lookup-set_value laws test (λ a b h. laws.congr (key_of k) a b h) (x, y, i) e' es (ap is_some there)
          ∙ ap (λ t. cond t (Some e') (lookup (is_at (key_order (x, y, i))) es)) (key_is k.initiator k.acceptor k.id x y i);
      live = ap length same ∙ length-set_value test es e';
      least = omega (arith, removed (key_of k) es (remove_entry test es) (Some e) is refl);
      sums = ap (λ l. sum_by weight (values_of l) + weight e) same ∙ sum_by-set_value weight test es e e' there;
    }

pub on_err : {T E : Type 0} (r : Result T E) (P : Type 0) → P → OnErr r P
on_err (Ok x) P p = tt
on_err (Err e) P p = p
