-- What a rule table holds.
use Rattle.rules.specs.Noted.{rule_set_of}
use Rattle.rules.specs.InUse.{in_use}
use Rattle.rules.specs.RuleSet.{RuleSet}
use Rattle.rules.specs.declared.table.RuleTable.{RuleTable}

-- the rules and pairs that a table holds
abbrev pub means : RuleTable → RuleSet
means t =
    rule_set_of t.inclusions.cells t.exclusions.cells t.required.cells t.roles.cells
    (in_use t.pairs)
