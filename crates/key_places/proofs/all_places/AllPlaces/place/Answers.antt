use Rattle.std.proofs.Common.{rules}
use Rattle.key_places.proofs.Rows.{place_bound}
use Rattle.key_places.proofs.all_places.AllPlaces.place.Goals as goal

pub returns-clause-within : goal.returns-clause-within
returns-clause-within c = place_bound c.args.key.now c.args.self.now c.copied.result (search rules)
