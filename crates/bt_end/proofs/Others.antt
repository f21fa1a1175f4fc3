-- Parts of an end that neither fetch nor serve.
use Rattle.std.proofs.Common.{◌≡◌, ℕ, List, None, refl}
use Rattle.bt_metadata.specs.Assemblies.{AssemblyState}
use Rattle.bt_metadata.specs.declared.server.Reply.TheVariants as reply
use Rattle.bt_end.specs.Ends.{Part, served_size, with_block, with_refused, part_kept}
use Rattle.bt_end.specs.Events.{block_event, reject_event}
use Rattle.bt_end.specs.declared.event.Event.TheVariants as event
use Rattle.bt_end.specs.Parts.{part_of, IsReplyOf}
use Rattle.bt_end.specs.declared.part.Part.{Part as Code}
use Rattle.bt_end.specs.declared.part.Part.TheVariants as code

-- what is so of a part that puts no metadata together
pub record IsIdle (p : Part) : Type 0 where
  pub kept : p ≡ part_kept p
  pub unrefused : (piece : ℕ) → p ≡ with_refused piece p
  pub same : (piece total : ℕ) (bytes : List ℕ) → p ≡ with_block piece total bytes p
  pub told : (piece total : ℕ) (bytes : List ℕ) → event.Other ≡ block_event piece total bytes p
  pub unrejected : (piece : ℕ) → event.Other ≡ reject_event piece p

pub not_fetching : {A : Type 0} → (p : Code A) → ((a : AssemblyState) → p ≡ code.Fetching a → ⊥) → IsIdle (part_of p)
not_fetching (code.Fetching a) h = absurd (h a refl)
not_fetching other h = record {
  kept = refl;
  unrefused = λ _. refl;
  same = λ _ _ _. refl;
  told = λ _ _ _. refl;
  unrejected = λ _. refl;
}

pub unserved_size : {A : Type 0} → (p : Code A) → ((s : List ℕ) → p ≡ code.Serving s → ⊥) → None ≡ served_size (part_of p)
unserved_size (code.Serving server) h = absurd (h server refl)
unserved_size other h = refl

pub unserved_reply : {A : Type 0} → (p : Code A) (piece : ℕ) → ((s : List ℕ) → p ≡ code.Serving s → ⊥) → IsReplyOf (part_of p) piece reply.Reject
unserved_reply (code.Serving server) piece h = absurd (h server refl)
unserved_reply other piece h = refl
