use Rattle.std.proofs.Common.{inl, inr, ◌≡◌, List, subst}
use Rattle.std.proofs.Math.Logic.{∥∥₁_map}
use Rattle.http_server.specs.Connection.{history}
use Rattle.http_server.specs.History.{IsServed}
use Rattle.http_server.specs.declared.state.Config.{Config}
use Rattle.http_server.proofs.Theorems.{always_served}
use Rattle.http_laws.proofs.reading.each_client_is_answered.Goals as goal

pub returns : goal.returns
returns c = λ config deeds number known. elim (known number) [
  | inl none ↦ inl none
  | inr (of, session) ↦
      let served = subst (λ (k : Config). ∥ IsServed k (history of) ∥₁) session.config_is (always_served of) in
      inr (∥∥₁_map served (λ (is : IsServed config (history of)). (history of, session.received, session.calls, session.sent, is)))
]
