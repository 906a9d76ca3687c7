-- Where a number's own digits start. Assumes nothing.
use Rattle.std.specs.Prelude.{ℕ, zero, suc, ◌/◌, cond, ltb}

-- how many zeros stand before a number in so many digits, the last digit apart
-- tied to the paper by `plain_drop` of reply/Laws
abbrev pub leads : ℕ → ℕ → ℕ
leads zero n = 0
leads (suc w) n = cond (ltb n 10) w (leads w (n / 10))
