-- What a reader knows.
use Rattle.std.specs.Prelude.{ℕ, List}
use Rattle.bt_pcap.specs.declared.interfaces.Interface.{Interface}
use Rattle.bt_pcap.specs.declared.file.CaptureFile.{CaptureFile}
use Rattle.bt_pcap.specs.declared.file.Fraction.{Fraction}
use Rattle.bt_pcap.specs.declared.file.Fraction.TheVariants.{Microseconds, Nanoseconds}
use Rattle.bt_pcap.specs.declared.file.Kind.{Kind}
use Rattle.bt_pcap.specs.declared.file.Kind.TheVariants as kind
use Rattle.bt_pcap.specs.Interfaces.{interfaces_of}
use Rattle.bt_pcap.specs.Formats.{Format, Unknown, Pcap, Pcapng}

-- the nanoseconds that a fraction counts
abbrev pub scale_of : Fraction → ℕ
scale_of Microseconds = 1000
scale_of Nanoseconds = 1

abbrev pub format_by : Kind → List Interface → Format
format_by kind.Unknown known = Unknown
format_by (kind.Pcap order fraction link) known = Pcap order (scale_of fraction) link
format_by (kind.Pcapng order) known = Pcapng order known

abbrev pub format_of : CaptureFile → Format
format_of f = format_by f.kind (interfaces_of f.interfaces)
