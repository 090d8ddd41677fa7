use Rattle.store_laws.proofs.StorageResting.{rests_hold}
use Rattle.store_laws.proofs.storage.what_storage_sites_rest_on.Goals as goal

pub returns : goal.returns
returns c = λ config trace followed laws plain. rests_hold config trace followed laws plain
