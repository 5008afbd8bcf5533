use Rattle.model.specs.LookedUp.{tabled}
use Rattle.model.proofs.TabledLaws.{tabled_lawful}
use Rattle.model.proofs.canonical_model.CanonicalModelSteppedModel.names.Goals as goal

pub returns-clause-lawful : goal.returns-clause-lawful
returns-clause-lawful g c = let m = c.args.self.now in tabled_lawful (tabled m.tables) (g.S.Store.means m.store.now).facts m.right
