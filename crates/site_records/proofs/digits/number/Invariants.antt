use Rattle.std.proofs.Common.{◌≡◌, ◌<◌, ◌^◌, drop}
use Rattle.site_records.specs.Digits.{number, number_from}
use Rattle.site_records.proofs.digits.number.Given as goal

abbrev pub invariant-loop-b : goal.invariant-loop-b
invariant-loop-b l = record {
  rest : number_from l.n (drop l.b-index l.digits) ≡ number l.digits;
  small : l.n < 10 ^ l.b-index;
}
