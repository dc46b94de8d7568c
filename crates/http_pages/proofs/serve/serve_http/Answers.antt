use Rattle.std.proofs.Common.{ℕ, List, ◌++◌, sym, ap, subst, ◌∙◌}
use Rattle.std.specs.Io.KnownBytes.{Appends, Consumes}
use Rattle.http_server.specs.declared.state.Config.{Config}
use Rattle.http_server.specs.Connection.{history}
use Rattle.http_server.specs.History.{History, IsServed}
use Rattle.http_server.proofs.Theorems.{always_served}
use Rattle.http_pages.proofs.serve.serve_http.Goals as goal

pub returns : goal.returns
returns g c =
    let last = c.serve_rounds.new.connection in
    let began = c.new-connection.ensures.history in
    let read = c.serve_rounds.ensures.read in
    let written = c.serve_rounds.ensures.written in
    let rounds = c.serve_rounds.ensures.rounds (ap (λ (h : History). h.calls) began) in
    let config = c.serve_rounds.ensures.config ∙ c.new-connection.ensures.config in
    let remaining = g.R.Read.remaining in
    let contents = g.W.Write.contents in
    record {
      connection = last;
      served = subst (λ (k : Config). ∥ IsServed k (history last) ∥₁) config (always_served last);
      read = subst (λ (t : List ℕ). Consumes (remaining c.args.reader.now) (remaining c.serve_rounds.new.reader) t)
          (sym (read.2 ∙ ap (λ (h : History). h.received ++ read.0) began)) read.1;
      written = subst (λ (t : List ℕ). Appends (contents c.args.writer.now) (contents c.serve_rounds.new.writer) t)
          (sym (written.2 ∙ ap (λ (h : History). h.sent ++ written.0) began)) written.1;
      rounds = rounds.0;
      calls = rounds.2;
      answered = rounds.1;
      cleared = rounds.3;
      stops = rounds.4;
      told = rounds.5;
      ended = c.serve_rounds.ensures.done;
    }
