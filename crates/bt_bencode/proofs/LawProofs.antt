-- The laws, for the functions of `laws` and for crates above.
use Rattle.std.proofs.Common.{List, ℕ, [], ◌++◌, ap, arith}
use Rattle.bt_bencode.specs.Laws.{OneValue, NoneBegins, OneDictionary, OnePlace, SortedHasNone, UnsortedIsFirst, NoneIsMisplaced, BytesGoOn, ValuesFit}
use Rattle.bt_bencode.specs.Unique.{same_tree}
use Rattle.bt_bencode.proofs.Payloads as payloads
use Rattle.bt_bencode.proofs.Rising.{sorted_of, none_of}
use Rattle.bt_bencode.proofs.Least.{first_there, none_there}
use Rattle.bt_bencode.proofs.Bytes as bytes
use Rattle.bt_bencode.proofs.Lookups as lookups

pub none_begins : NoneBegins
none_begins t u x y ht hu e = same_tree t u x y ht.in_range hu.in_range e

pub one_value : OneValue
one_value t u ht hu e = (none_begins t u [] [] ht hu (ap (λ (x : List ℕ). x ++ []) e)).0

pub one_dictionary : OneDictionary
one_dictionary = payloads.one_dictionary

pub one_place : OnePlace
one_place payload m n a b = omega (arith, a.greatest n b.within b.viable, b.greatest m a.within a.viable)

pub sorted_has_none : SortedHasNone
sorted_has_none t = (sorted_of t, none_of t)

pub unsorted_is_first : UnsortedIsFirst
unsorted_is_first = first_there

pub none_is_misplaced : NoneIsMisplaced
none_is_misplaced t n e h = none_there t e n h

pub bytes_go_on : BytesGoOn
bytes_go_on = bytes.bytes_go_on

pub values_fit : ValuesFit
values_fit = lookups.values_fit
