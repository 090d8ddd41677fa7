-- Where the open instances of the role stand among all of it.
use Rattle.std.specs.Prelude.{ℕ, ◌+◌, Bool, true, false, List, [], ◌∷◌, ◌++◌, Option, Some, None}
use Rattle.locus_ids.specs.declared.ids.FileId.{FileId}
use Rattle.commit_graph.specs.Versions.{same_file}
use Rattle.wire_messages.specs.declared.packet.Packet.{Packet}
use Rattle.role_steps.specs.Views.{Frame}
use Rattle.role_steps.specs.Storage.{changed_pages, closed_again, is_open}
use Rattle.role_steps.specs.declared.instances.Instance.{Instance}
use Rattle.storage_site.specs.Serving.{made_ino}

abbrev pub place_if : Bool → ℕ → List ℕ
place_if true place = place ∷ []
place_if false place = []

-- the places of the open ones among these, of which the first one stands at this place
abbrev pub open_from : ℕ → List Instance → List ℕ
open_from place [] = []
open_from place (i ∷ is) = place_if (is_open i.stage) place ++ open_from (place + 1) is

-- what is asked of the instance at a place

abbrev pub is_of : FileId → Option Instance → Bool
is_of file None = false
is_of file (Some i) = same_file i.file file

abbrev pub changed_by : ℕ → Option Instance → ℕ
changed_by group None = 0
changed_by group (Some i) = changed_pages group i

abbrev pub made_by : ℕ → Option Instance → List ℕ
made_by group None = []
made_by group (Some i) = made_ino group i

abbrev pub again_by : Frame → Option Instance → List Packet
again_by f None = []
again_by f (Some i) = closed_again f i i.stage
