-- What may be wrong with a payload that has to begin with a dictionary. (For the contracts of functions that are not public.)
use Rattle.std.specs.Prelude.{ℕ, not, Option}
use Rattle.bt_ext.specs.Metadata.{is_block_ok, is_malformed}
use Rattle.bt_ext.specs.Faults.{first_of, fault_if}
use Rattle.bt_ext.specs.declared.metadata.Kind.{Kind}
use Rattle.bt_ext.specs.declared.ext.ViewError.{ViewError}
use Rattle.bt_ext.specs.declared.ext.ViewError.TheVariants as error

-- the first fault of a metadata message of a kind, whose dictionary has `m` bytes, with `n` bytes after it
abbrev pub kind_fault_of : Kind → ℕ → ℕ → Option ViewError
kind_fault_of k m n = first_of (fault_if (is_malformed k) error.BadField) (fault_if (not (is_block_ok k n)) (error.BadBlock m))
