-- The answer of a tracker over HTTP: the head of a response, and a bencoded dictionary (BEP 3, "trackers"; BEP 7; BEP 23).
use Rattle.std.specs.Prelude.{◌≡◌, ℕ, ◌≤◌, ◌<◌, List, [], length, codes, Option, Some, None, option_and_then, unwrap_or}
use Rattle.httparse.specs.Grammar.{ReadsResponse, ResponseHead, status_code}
use Rattle.bt_bencode.specs.Trees.{Pairs}
use Rattle.bt_bencode.specs.Bencoding.{BeginsWith}
use Rattle.bt_bencode.specs.Keys.{value_at}
use Rattle.bt_bencode.specs.LookUps.{string_of}
use Rattle.bt_bencode.specs.Payloads.{BeginsWithNone}
use Rattle.bt_tracker.specs.declared.answer.HttpAnswer.{HttpAnswer}
use Rattle.bt_tracker.specs.declared.answer.HttpAnswer.TheVariants.{Failure, Peers}
use Rattle.bt_tracker.specs.declared.answer.HttpError.{HttpError}
use Rattle.bt_tracker.specs.declared.answer.HttpError.TheVariants.{Long, Head, Body}

-- what follows the head of a response of status 200 and of at most 64 fields
abbrev pub IsBody : List ℕ → List ℕ → Type 0
IsBody answer body = (h : ResponseHead) × ReadsResponse answer h body × (length h.fields ≤ 64) × (status_code h ≡ 200)

-- the byte string at a key
abbrev pub text_at : List ℕ → Pairs → Option (List ℕ)
text_at key ps = option_and_then string_of (value_at key ps)

-- "failure reason", or peers in compact form
abbrev pub IsTold : Pairs → HttpAnswer → Type 0
IsTold ps (Failure words) = text_at (codes "failure reason") ps ≡ Some words.now
IsTold ps (Peers v4 v6) = (text_at (codes "failure reason") ps ≡ None) × (v4.now ≡ unwrap_or (text_at (codes "peers") ps) [])
    × (v6.now ≡ unwrap_or (text_at (codes "peers6") ps) [])

-- what the dictionary says that the body begins with
abbrev pub IsHttpAnswer : List ℕ → HttpAnswer → Type 0
IsHttpAnswer answer told =
    (body : List ℕ) × (ps : Pairs) × (n : ℕ) × (length answer ≤ 65536) × IsBody answer body × BeginsWith body ps n × IsTold ps told

-- no response of status 200 and of at most 64 fields
abbrev pub HasNoBody : List ℕ → Type 0
HasNoBody answer = (h : ResponseHead) (body : List ℕ) → ReadsResponse answer h body → length h.fields ≤ 64 → status_code h ≡ 200 → ⊥

abbrev pub IsNoHttpAnswer : List ℕ → HttpError → Type 0
IsNoHttpAnswer answer Long = 65536 < length answer
IsNoHttpAnswer answer Head = HasNoBody answer
IsNoHttpAnswer answer Body = (body : List ℕ) × IsBody answer body × BeginsWithNone body
