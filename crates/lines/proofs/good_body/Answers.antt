use Rattle.std.proofs.Common.{rules}
use Rattle.paper.specs.Bytes.{digits}
use Rattle.paper.specs.Pack.{taxpayer_line, bank_line, state_line, width_of, rise_of, good_line, good_body}
use Rattle.lines.proofs.good_body.Goals as goal

pub returns-in-1 : goal.returns-in-1
unfolding good_body width_of rise_of good_line
returns-in-1 c = let told = c.good_lines.ensures taxpayer_line (λ x r f k. search rules) in search rules

pub returns-in-2 : goal.returns-in-2
unfolding good_body width_of rise_of good_line
returns-in-2 c = let told = c.good_lines-in-2.ensures bank_line (λ x r f k. search rules) in search rules

pub returns-in-3 : goal.returns-in-3
unfolding good_body width_of rise_of good_line
returns-in-3 c = let told = c.good_lines-in-3.ensures digits (λ x r f k. search rules) in search rules

pub returns-in-4 : goal.returns-in-4
unfolding good_body width_of rise_of good_line
returns-in-4 c = let told = c.good_lines-in-4.ensures state_line (λ x r f k. search rules) in search rules

pub returns-in_default : goal.returns-in_default
unfolding good_body width_of rise_of good_line
returns-in_default c = let told = c.good_lines-in_default.ensures digits (λ x r f k. search rules) in search rules
