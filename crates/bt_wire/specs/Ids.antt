-- The ids of messages (BEP 3, "peer messages"; BEP 5, "BitTorrent protocol extension"; BEP 6; BEP 10).
use Rattle.std.specs.Prelude.{ℕ, ◌==◌, Bool, List, [], ◌∷◌, Option, Some, None, is_some, option_map, codes, if◌then◌else◌}
use Rattle.std.specs.Str.{bytes_eq}
use Rattle.bt_wire.specs.declared.ids.Kind.{Kind}
use Rattle.bt_wire.specs.declared.ids.Needs.{Needs}
use Rattle.bt_wire.specs.declared.ids.Needs.TheVariants.{Neither, Fast, Extension}
use Rattle.bt_wire.specs.declared.ids.Shape.{Shape}
use Rattle.bt_wire.specs.declared.ids.Shape.TheVariants.{Nothing, Index, Part, Block, Port, Field, Extended}
use Rattle.bt_wire.specs.declared.ids.Turn.{Turn}
use Rattle.bt_wire.specs.declared.ids.Turn.TheVariants.{Apart, Counted, Opening}

-- an id with a meaning: its number, the name that lines give it, the shape of the fields after it, the extension that both
-- ends must have agreed on, and its part in the order of messages
pub record Id : Type 0 where
  pub number : ℕ
  pub name : List ℕ
  pub kind : Kind

abbrev pub id : ℕ → List ℕ → Shape → Needs → Turn → Id
id number name shape needs turn = record { number = number; name = name; kind = record { shape = shape; needs = needs; turn = turn } }

-- the table of ids: all that is known of an id is read from its row
abbrev pub ids : List Id
ids =
    id 0 (codes "choke") Nothing Neither Counted
    ∷ id 1 (codes "unchoke") Nothing Neither Counted
    ∷ id 2 (codes "interested") Nothing Neither Counted
    ∷ id 3 (codes "not-interested") Nothing Neither Counted
    ∷ id 4 (codes "have") Index Neither Counted
    ∷ id 5 (codes "bitfield") Field Neither Opening
    ∷ id 6 (codes "request") Part Neither Counted
    ∷ id 7 (codes "piece") Block Neither Counted
    ∷ id 8 (codes "cancel") Part Neither Counted
    ∷ id 9 (codes "port") Port Neither Apart
    ∷ id 13 (codes "suggest") Index Fast Counted
    ∷ id 14 (codes "have-all") Nothing Fast Opening
    ∷ id 15 (codes "have-none") Nothing Fast Opening
    ∷ id 16 (codes "reject") Part Fast Counted
    ∷ id 17 (codes "allowed-fast") Index Fast Counted
    ∷ id 20 (codes "extended") Extended Extension Apart
    ∷ []

abbrev pub row_in : ℕ → List Id → Option Id
row_in n [] = None
row_in n (i ∷ is) = if n == i.number then Some i else row_in n is

-- the row with this name
abbrev pub row_named : List ℕ → List Id → Option Id
row_named name [] = None
row_named name (i ∷ is) = if bytes_eq name i.name then Some i else row_named name is

abbrev pub kind_of : ℕ → Option Kind
kind_of n = option_map (λ i. i.kind) (row_in n ids)

abbrev pub has_meaning : ℕ → Bool
has_meaning n = is_some (kind_of n)

abbrev pub shape_by : Option Kind → Option Shape
shape_by k = option_map (λ k. k.shape) k
