-- The script of a link: settings of two ends, and then steps.
use Rattle.std.specs.Global.{Global}
use Rattle.std.specs.Prelude.{◌≡◌, ℕ, ◌+◌, ◌==◌, Bool, true, false, List, [], ◌∷◌, ◌++◌, length, codes, Option, Some, None, ⊤}
use Rattle.std.specs.List.{flat_map}
use Rattle.sha1.specs.Sha1.{sha1}
use Rattle.bt_ext.specs.declared.ids.Rules.TheVariants.{Bep}
use Rattle.bt_ext.specs.Ids.{registered, metadata_only}
use Rattle.bt_wire.specs.declared.context.Own.{Own}
use Rattle.bt_metadata.specs.Blocks.{window, max_metadata}
use Rattle.bt_end.specs.declared.config.Announce.{Announce}
use Rattle.bt_end.specs.declared.config.Announce.TheVariants.{Silent}
use Rattle.bt_end.specs.declared.config.Config.{Config}
use Rattle.bt_end.specs.Configs.{part_for}
use Rattle.bt_end.specs.Ends.{Part, Watching, Serving, Awaiting}
use Rattle.bt_session.specs.declared.link.Side.{Side}
use Rattle.bt_session.specs.declared.link.Side.TheVariants.{Left, Right}
use Rattle.bt_session.specs.declared.link.Step.{Step}
use Rattle.bt_text.specs.Script.{has_feed}
use Rattle.bt_link.specs.declared.entry.Entry.TheVariants.{Set, Do}
use Rattle.bt_link.specs.declared.entry.Setting.{Setting}
use Rattle.bt_link.specs.declared.entry.Setting.TheVariants as settings
use Rattle.bt_link.specs.declared.script.Script.{Script}
use Rattle.bt_link.specs.declared.script.Outline.{Outline as Outlined}
use Rattle.bt_link.specs.declared.script.Draft.{Draft as Drafted}
use Rattle.bt_link.specs.Entries.{Says}

-- ---- an end's config as values

pub record Setup : Type 0 where
  pub own : Own
  pub peer_id : List ℕ
  pub announce : Announce
  pub window : ℕ
  pub part : Part

abbrev pub setup_of : Config Global → Setup
setup_of c = record { own = c.own; peer_id = c.peer_id; announce = c.announce; window = c.window; part = part_for c.role }

abbrev pub with_own : Setup → Own → Setup
with_own s own = record s { own = own }

abbrev pub with_hash : Setup → List ℕ → Setup
with_hash s hash = with_own s (record s.own { info_hash = Some hash })

abbrev pub with_part : Setup → Part → Setup
with_part s part = record s { part = part }

-- ---- what the lines so far say of an end

-- a config that registers no id, and the ids that the last lines name
pub record Outline : Type 0 where
  pub setup : Setup
  pub metadata : Option ℕ
  pub donthave : Option ℕ

-- the end watches, and its info hash isn't known yet
abbrev pub default_outline : Option ℕ → List ℕ → Outline
default_outline id peer_id = record {
  setup = record {
    own = record { reserved = record { 0 = 0x100005 }; info_hash = None; pieces = None; reg = metadata_only None; rules = Bep; limit = 262144 };
    peer_id = peer_id;
    announce = Silent;
    window = window;
    part = Watching;
  };
  metadata = id;
  donthave = None;
}

abbrev pub with_setup : Outline → Setup → Outline
with_setup o s = record o { setup = s }

-- an end that serves metadata has its SHA-1 as info hash
abbrev pub with_setting : Outline → Setting → Outline
with_setting o (settings.Watch hash) = with_setup o (with_part (with_hash o.setup hash) Watching)
with_setting o (settings.Serve metadata) = with_setup o (with_part (with_hash o.setup (sha1 metadata)) (Serving metadata))
with_setting o (settings.Fetch hash) = with_setup o (with_part (with_hash o.setup hash) (Awaiting max_metadata))
with_setting o (settings.InfoHash hash) = with_setup o (with_hash o.setup hash)
with_setting o (settings.PeerId peer_id) = with_setup o (record o.setup { peer_id = peer_id })
with_setting o (settings.Reserved bits) = with_setup o (with_own o.setup (record o.setup.own { reserved = record { 0 = bits } }))
with_setting o (settings.Rules rules) = with_setup o (with_own o.setup (record o.setup.own { rules = rules }))
with_setting o (settings.Announce announce) = with_setup o (record o.setup { announce = announce })
with_setting o (settings.Pieces n) = with_setup o (with_own o.setup (record o.setup.own { pieces = Some n }))
with_setting o (settings.Limit n) = with_setup o (with_own o.setup (record o.setup.own { limit = n }))
with_setting o (settings.Window n) = with_setup o (record o.setup { window = n })
with_setting o (settings.MetadataId id) = record o { metadata = id }
with_setting o (settings.DonthaveId id) = record o { donthave = id }

-- the config, with both ids: that of `lt_donthave` isn't registered where both are equal
abbrev pub settled_setup : Outline → Setup
settled_setup o = with_own o.setup (record o.setup.own { reg = registered o.metadata o.donthave })

-- ---- what the lines so far say

pub record Draft : Type 0 where
  pub left : Outline
  pub right : Outline
  pub steps : List Step

abbrev pub start : Draft
start = record {
  left = default_outline (Some 3) (codes "-BT0001-LLLLLLLLLLLL");
  right = default_outline (Some 9) (codes "-BT0001-RRRRRRRRRRRR");
  steps = [];
}

abbrev pub with_side : Draft → Side → Setting → Draft
with_side d Left setting = record d { left = with_setting d.left setting }
with_side d Right setting = record d { right = with_setting d.right setting }

abbrev pub with_step : Draft → Step → Draft
with_step d step = record d { steps = d.steps ++ step ∷ [] }

-- ---- what a whole script says

pub record Plan : Type 0 where
  pub left : Setup
  pub right : Setup
  pub steps : List Step

abbrev pub plan_of : Script → Plan
plan_of s = record { left = setup_of s.left; right = setup_of s.right; steps = s.steps.items }

abbrev pub settled : Draft → Plan
settled d = record { left = settled_setup d.left; right = settled_setup d.right; steps = d.steps }

-- ---- lines

-- an empty line, and one that begins with `#`, says nothing
abbrev pub is_skipped : List ℕ → Bool
is_skipped [] = true
is_skipped (c ∷ cs) = c == 35

-- a line is skipped; or it has a setting, which stands before the steps; or it has a step
pub data Takes (d : Draft) (line : List ℕ) (next : Draft) : Type 0 where
  skips : is_skipped line ≡ true → next ≡ d → Takes d line next
  sets : (side : Side) → (setting : Setting) → is_skipped line ≡ false → Says line (Set side setting) → d.steps ≡ [] → next ≡ with_side d side setting
      → Takes d line next
  does : (step : Step) → is_skipped line ≡ false → Says line (Do step) → next ≡ with_step d step → Takes d line next

-- the lines are taken one after the other
abbrev pub AreTaken : Draft → List (List ℕ) → Draft → Type 0
AreTaken d [] end = end ≡ d
AreTaken d (line ∷ lines) end = (next : Draft) × Takes d line next × AreTaken next lines end

-- whether a line was taken
abbrev pub IsTaken : Draft → List ℕ → Draft → Bool → Type 0
IsTaken d line next true = Takes d line next
IsTaken d line next false = (other : Draft) → Takes d line other → ⊥

-- ---- the lines of a text

abbrev pub AreWhole : List (List ℕ) → Type 0
AreWhole [] = ⊤
AreWhole (line ∷ lines) = (has_feed line ≡ false) × AreWhole lines

-- the lines, each with its line feed
abbrev pub ended_lines : List (List ℕ) → List ℕ
ended_lines lines = flat_map (λ line. line ++ 10 ∷ []) lines

-- nothing follows a line, or a line feed does
abbrev pub IsTail : List ℕ → Type 0
IsTail [] = ⊤
IsTail (c ∷ cs) = c ≡ 10

-- the text is these lines, each ended by a line feed, then this one and what follows it
pub record HasLine (text : List ℕ) (before : List (List ℕ)) (line tail : List ℕ) : Type 0 where
  pub parts : text ≡ ended_lines before ++ (line ++ tail)
  pub whole : AreWhole before
  pub last : has_feed line ≡ false
  pub ends : IsTail tail

-- ---- a whole script

-- All lines are taken, the last too, which no line feed ends (it may be empty). Then the settings of both ends are settled: of each
-- name the last line counts, in whatever order the names stand.
pub record IsScript (text : List ℕ) (p : Plan) : Type 0 where
  pub before : List (List ℕ)
  pub line : List ℕ
  pub lines : HasLine text before line []
  pub draft : Draft
  pub taken : AreTaken start (before ++ line ∷ []) draft
  pub plan : p ≡ settled draft

-- the first line that isn't taken, counted from 1
pub record IsWrongAt (text : List ℕ) (number : ℕ) : Type 0 where
  pub before : List (List ℕ)
  pub line : List ℕ
  pub tail : List ℕ
  pub lines : HasLine text before line tail
  pub draft : Draft
  pub taken : AreTaken start before draft
  pub wrong : (next : Draft) → Takes draft line next → ⊥
  pub count : number ≡ length before + 1

-- ---- for private contracts

abbrev pub outline_of : Outlined → Outline
outline_of o = record { setup = setup_of o.config; metadata = o.metadata; donthave = o.donthave }

abbrev pub draft_of : Drafted → Draft
draft_of d = record { left = outline_of d.left; right = outline_of d.right; steps = d.steps.items }
