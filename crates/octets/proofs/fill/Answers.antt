-- `fill` meets its contract.
use Rattle.std.proofs.Common.{◌≡◌, ◌+◌, ◌-◌, arith}
use Rattle.octets.proofs.Slices.{fill_mid}
use Rattle.octets.proofs.fill.Goals as goal

pub returns : goal.returns
returns g c =
    let k : c.min-start.result + c.min.result - c.min-start.result ≡ c.min.result = omega arith in
    let e = rw k at (c.fill.ensures.after c.requires.clones_are_the_same) in
    rw (k, e) (fill_mid c.args.d.now c.args.at c.args.n c.args.value _ _ c.min-start.ensures c.min.ensures)
