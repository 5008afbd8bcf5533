use Rattle.std.proofs.Common.{ap, ◌∙◌, MutBor, rules}
use Rattle.store.specs.Holding.{Holding}
use Rattle.store.specs.Records.{held, record_limit}
use Rattle.store.specs.declared.records.RecordStore.{RecordStore}
use Rattle.certain.specs.Reference.{accepted, accepted_by, at_first}
use Rattle.text.specs.Lines.{lines}
use Rattle.text.specs.Pages.{shown, fresh}
use Rattle.text.specs.Runs.{printed}
use Rattle.text.proofs.Pages.{filled, alike}
use Rattle.text.proofs.runs.run.Goals as goal

abbrev facts : MutBor RecordStore → Holding
facts r = held r.now.names r.now.records.now r.now.len

pub returns : goal.returns
returns c =
    let r = c.new-register in
    let limit = record_limit c.args.records.now in
    let page = c.args.page.now in
    let text = c.args.text.now in
    filled (printed 1024 limit text) page _ (shown c.print_lines.new.page) c.result.result
    (c.print_lines.ensures.printed
    ∙ alike (shown c.new-output.result) (fresh page) (accepted_by facts r.result) (at_first 1024 limit) (lines text) c.new-output.ensures.fresh
    (λ i. accepted ((ap facts r.ensures.store ∙ c.open-store.ensures.opened) i) (r.ensures.rules i)))
    c.result.ensures (search rules)
