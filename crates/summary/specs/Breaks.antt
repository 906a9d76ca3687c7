-- Whether a summary breaks a rule of its table, and the runs of its fields. The rules from 0050 on need not be told the form. Assumes nothing.
use Rattle.std.specs.Prelude.{ℕ, ◌+◌, ◌/◌, ◌%◌, Bool, ◌&&◌, leb}
use Rattle.paper.specs.declared.Layout.TheVariants.{LSummary}
use Rattle.paper.specs.Bytes.{Bytes}
use Rattle.paper.specs.Layouts.{entry}
use Rattle.paper.specs.Conditions.{summary_holds}

-- tied to the paper by `breaks_held` of summary/Laws
abbrev pub breaks : Bytes → Bytes → ℕ → Bool
breaks form own = λ (rule : ℕ). summary_holds (rule / 10000) (rule % 10000) form own

-- a field stands within the run from one field to another
abbrev pub is_within : ℕ → ℕ → ℕ → Bool
is_within from to n =
    leb (entry LSummary from).start (entry LSummary n).start
    && leb ((entry LSummary n).start + (entry LSummary n).width) ((entry LSummary to).start + (entry LSummary to).width)
