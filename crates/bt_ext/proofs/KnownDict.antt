-- The dictionary of a payload that was judged before.
use Rattle.std.proofs.Common.{◌≡◌, ℕ, ◌≤◌, true, List, ◌++◌, length, take, ap, ◌∙◌, arith, length-append}
use Rattle.std.proofs.Math.Seq.{take-append_seam}
use Rattle.bt_bencode.specs.Trees.{dictionary}
use Rattle.bt_bencode.specs.Bencoding.{ben, IsSpelling}
use Rattle.bt_bencode.specs.Views.{tree_of}
use Rattle.bt_bencode.specs.declared.tree.Value.{Value}
use Rattle.bt_ext.specs.Ids.{needs_dict}
use Rattle.bt_ext.specs.Payloads.{IsExt, IsDict}
use Rattle.bt_ext.specs.Judged.{dict_length}
use Rattle.bt_ext.specs.declared.ids.Registered.{Registered}
use Rattle.bt_ext.specs.declared.ext.Ext.{Ext}
use Rattle.bt_ext.specs.declared.ext.Ext.TheVariants as ext
use Rattle.bt_ext.proofs.OneExt.{dict_or_donthave, dict_or_raw}

-- the first n bytes are the dictionary
pub record HasDict (payload : List ℕ) (n : ℕ) : Type 0 where
  pub within : n ≤ length payload
  pub spelled : IsSpelling (take n payload)

front : (v : Value) (x payload : List ℕ) (n : ℕ) → IsDict v → payload ≡ ben (tree_of v) ++ x → n ≡ length (ben (tree_of v)) → HasDict payload n
front v x payload n d e size =
    let text = ben (tree_of v) in
    let long = ap length e ∙ length-append text x in
    let here : take n payload ≡ text = ap (λ (k : ℕ). take k payload) size ∙ ap (take (length text)) e ∙ take-append_seam text x in
    let is : take n payload ≡ ben (dictionary d.0) = here ∙ ap (λ (u : Value). ben (tree_of u)) d.1 in
    record { within = omega (arith, long, size); spelled = (d.0, record { fits = d.2; spelled = is }) }

pub dict_there : (reg : Registered) (e : Ext) (id : ℕ) (payload : List ℕ) (n : ℕ) → needs_dict reg id ≡ true → IsExt reg e id payload → n ≡ dict_length e
    → HasDict payload n
dict_there reg (ext.Handshake v x) id payload n needs h size = front v x payload n h.fits h.spelled size
dict_there reg (ext.Metadata v x) id payload n needs h size = front v x payload n h.fits h.spelled size
dict_there reg (ext.DontHave i) id payload n needs h size = absurd (dict_or_donthave reg id needs h.named)
dict_there reg (ext.Raw i q) id payload n needs h size = absurd (dict_or_raw reg i id needs h.named)
