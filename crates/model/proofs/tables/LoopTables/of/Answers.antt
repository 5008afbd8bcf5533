use Rattle.std.proofs.Common.{ℕ, ◌<◌, subst, rules, arith}
use Rattle.rules.specs.Codes.{role_of}
use Rattle.rules.specs.Flags.{flag}
use Rattle.model.specs.RoleTests.{told_loop}
use Rattle.model.specs.Rows.{some_below, Filled}
use Rattle.model.proofs.Searches.{filled_by}
use Rattle.model.proofs.TableRows.{stacked_more, members_of}
use Rattle.model.proofs.tables.LoopTables.of.Goals as goal

pub loop-code-init : goal.loop-code-init
loop-code-init c = λ i l. absurd (omega arith)

pub loop-code-preserved : goal.loop-code-preserved
loop-code-preserved c =
    let q = λ (i j : ℕ). told_loop c.args.consequences.now (role_of i) (role_of j) in
    stacked_more _ _ c.loop-code.code _ 128 _ q c.from.ensures c.loop-code.invariant
    (subst (λ R. Filled c.loop_row.result 128 (λ s. told_loop c.args.consequences.now R (role_of s))) c.role_of.ensures c.loop_row.ensures)
    c.put.ensures

pub returns : goal.returns
returns c =
    let made = λ (i : ℕ) (l : i < 128). c.loop-code.invariant i (omega (arith, c.loop-code-test.false)) in
    record {
      pairs = made;
      members = members_of c.args.consequences.now c.loop-code.pairs.cells _ made (filled_by (λ i. some_below 128 (flag c.loop-code.pairs.cells i)) c.from_fn-members.ensures.items (λ x b h k. search rules));
    }
