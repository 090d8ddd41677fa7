use Rattle.rest_laws.proofs.Caching.{pages_right, schedule_pages}
use Rattle.rest_laws.proofs.laws.cached_pages_are_of_their_versions.Goals as goal

pub returns : goal.returns
returns c = record {
  told = λ config lines fit packs few. pages_right config lines fit packs few;
  read = λ lines order. schedule_pages lines order;
}
