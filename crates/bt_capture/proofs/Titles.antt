-- What a side calls itself, and its receiver.
use Rattle.std.proofs.Common.{◌≡◌, ◌∙◌, ℕ, true, List, Option, Some, None, is_some, ap}
use Rattle.bt_intro.specs.Hearing.{IsSaid}
use Rattle.bt_intro.specs.declared.settling.Receiver.{Receiver}
use Rattle.bt_intro.specs.Listening.{handshake_of, last_client}
use Rattle.bt_jobs.specs.Others.{first_of}
use Rattle.bt_talk.specs.Pasts.{Past}
use Rattle.bt_report.specs.Names.{title_text}
use Rattle.bt_report.specs.declared.report.Title.{Title}
use Rattle.bt_wire.specs.declared.handshake.Handshake.{Handshake}
use Rattle.bt_wire.specs.Streams.{Outcome}
use Rattle.bt_capture.specs.Reportings.{title_by, IsTitleOf}

pub title_is : (p : Past) (client : List ℕ) (h : Handshake) (t : Title) → title_text t ≡ title_by client h
    → (v : Outcome) × IsSaid p.front v × (client ≡ last_client v.items)
    → (v : Outcome) × IsSaid p.front v × (Some h ≡ first_of handshake_of v.items) → IsTitleOf p t
title_is p client h t f x y = record {
  hello = h;
  said = y.0;
  said_is = y.1;
  hello_is = y.2;
  named = x.0;
  named_is = x.1;
  text = f ∙ ap (λ (c : List ℕ). title_by c h) x.2;
}

pub receiver_there : (o : Option Receiver) (P : Option Receiver → Type 0) → is_some o ≡ true → P o → (r : Receiver) × P (Some r)
receiver_there None P e i = cc
receiver_there (Some r) P e i = (r, i)
