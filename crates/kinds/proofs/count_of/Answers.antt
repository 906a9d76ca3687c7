use Rattle.std.proofs.Common.{rules, ◌≡◌, ◌∙◌}
use Rattle.std.specs.List.{count_by}
use Rattle.kinds.specs.Kinds.{is_in}
use Rattle.kinds.proofs.Loops.{count_by_counts}
use Rattle.kinds.proofs.count_of.Goals as goal

pub returns : goal.returns
returns c =
    let h : c.count.result ≡ count_by (is_in c.args.kinds.now c.args.set) c.args.s.now = search rules in
    h ∙ count_by_counts _ _
