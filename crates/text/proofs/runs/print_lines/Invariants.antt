use Rattle.std.proofs.Common.{◌≡◌, ◌+◌, ◌≤◌, length}
use Rattle.certain.specs.Reference.{accepted_by}
use Rattle.text.specs.Lines.{lines}
use Rattle.text.specs.Pages.{shown, put_all}
use Rattle.text.specs.Pieces.{pieces_left}
use Rattle.text.specs.Runs.{outputs}
use Rattle.text.proofs.runs.print_lines.Given as goal

-- what is yet to be printed gives, on the page as it is, what all lines give on the page as it was
abbrev pub invariant-loop-line : goal.invariant-loop-line
invariant-loop-line g l =
    (put_all (shown l.page) (outputs (accepted_by g.S.Store.means l.register) (l.number + 1) (pieces_left l.line-iterator))
    ≡ put_all (shown l.initial.page) (outputs (accepted_by g.S.Store.means l.initial.register) 1 (lines l.text)))
    × (l.page.bytes.ghost_name ≡ l.initial.page.bytes.ghost_name)
    × (l.number + length (pieces_left l.line-iterator) ≤ length l.text)
