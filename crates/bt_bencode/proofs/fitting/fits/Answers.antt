use Rattle.bt_bencode.specs.Views.{tree_of}
use Rattle.bt_bencode.proofs.Nesting.{in_range, deep, fits}
use Rattle.bt_bencode.proofs.fitting.fits.Goals as goal

pub returns : goal.returns
returns c = (
  λ e. let h = c.fits_in.ensures.0 e in record { in_range = in_range 32 (tree_of c.args.value.now) h; nested = deep 32 (tree_of c.args.value.now) h },
  λ h. c.fits_in.ensures.1 (fits 32 (tree_of c.args.value.now) h.in_range h.nested),
)
