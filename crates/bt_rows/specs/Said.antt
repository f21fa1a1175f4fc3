-- The words of an item, as `show` has them, from what is kept of it.
use Rattle.std.specs.Prelude.{ℕ, List, [], ◌++◌, codes, decimal}
use Rattle.bt_text.specs.Lines.{spaced, or_dash, handshake_words}
use Rattle.bt_rows.specs.declared.said.Name.{Name}
use Rattle.bt_rows.specs.declared.said.Name.TheVariants as name
use Rattle.bt_rows.specs.declared.said.Numbers.{Numbers}
use Rattle.bt_rows.specs.declared.said.Numbers.TheVariants.{Zero, One, Two, Three}
use Rattle.bt_rows.specs.declared.said.Words.{Words}
use Rattle.bt_rows.specs.declared.said.Words.TheVariants.{Handshake, Announced, Message}
use Rattle.bt_rows.specs.declared.said.Said.{Said}

abbrev pub name_text : Name → List ℕ
name_text name.KeepAlive = codes "keep-alive"
name_text name.Choke = codes "choke"
name_text name.Unchoke = codes "unchoke"
name_text name.Interested = codes "interested"
name_text name.NotInterested = codes "not-interested"
name_text name.Have = codes "have"
name_text name.Bitfield = codes "bitfield"
name_text name.Request = codes "request"
name_text name.Piece = codes "piece"
name_text name.Cancel = codes "cancel"
name_text name.Port = codes "port"
name_text name.Suggest = codes "suggest"
name_text name.HaveAll = codes "have-all"
name_text name.HaveNone = codes "have-none"
name_text name.Reject = codes "reject"
name_text name.AllowedFast = codes "allowed-fast"
name_text name.DontHave = codes "donthave"
name_text name.Extended = codes "extended"
name_text name.MetadataRequest = codes "metadata-request"
name_text name.MetadataData = codes "metadata-data"
name_text name.MetadataReject = codes "metadata-reject"
name_text name.MetadataOther = codes "metadata-other"
name_text name.MetadataMalformed = codes "metadata-malformed"
name_text name.Unknown = codes "unknown"

-- each after a space
abbrev pub numbers_text : Numbers → List ℕ
numbers_text Zero = []
numbers_text (One n) = spaced n
numbers_text (Two n m) = spaced n ++ spaced m
numbers_text (Three n m k) = spaced n ++ (spaced m ++ spaced k)

abbrev pub words_text : Words → List ℕ
words_text (Handshake h) = handshake_words h
words_text (Announced dict rest size id) =
    codes "ext-handshake" ++ ((spaced dict ++ spaced rest) ++ (codes " size=" ++ (or_dash size ++ (codes " ut_metadata=" ++ or_dash id))))
words_text (Message name numbers) = name_text name ++ numbers_text numbers

-- its offset and its words
abbrev pub said_text : Said → List ℕ
said_text s = decimal s.offset ++ (codes " " ++ words_text s.words)
