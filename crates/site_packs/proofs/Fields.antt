-- The copy that a version is, as the fields of its slot say.
use Rattle.std.proofs.Common.{◌≡◌, ℕ, ◌+◌, ◌*◌, refl}
use Rattle.locus_ids.specs.Sizes.{inode_span}
use Rattle.pack_layout.specs.SlotFields.{SlotFields}
use Rattle.pack_slots.specs.of_inode_switch.View.{Version}
use Rattle.role_steps.specs.Storage.{copy_key}
use Rattle.site_packs.specs.Copies.{copy_in}

pub copy_of_fields : (group ino : ℕ) (said : SlotFields) (v : Version) → v.fields ≡ said
    → copy_in group ino v ≡ record { file = record { group = group; ino = ino }; kind = said.kind; set = said.set; stamp = said.stamp; vector = said.vector; content = v.content }
unfolding copy_in
copy_of_fields group ino said v says = (λ i. record { file = record { group = group; ino = ino }; kind = (says i).kind; set = (says i).set; stamp = (says i).stamp; vector = (says i).vector; content = v.content })

pub key_of : (group ino : ℕ) (v : Version) → copy_key (copy_in group ino v) ≡ group * inode_span + ino
unfolding copy_in
key_of group ino v = refl

pub group_of : (group ino : ℕ) (v : Version) → (copy_in group ino v).file.group ≡ group
unfolding copy_in
group_of group ino v = refl

pub ino_of : (group ino : ℕ) (v : Version) → (copy_in group ino v).file.ino ≡ ino
unfolding copy_in
ino_of group ino v = refl

pub content_of_copy : (group ino : ℕ) (v : Version) → (copy_in group ino v).content ≡ v.content
unfolding copy_in
content_of_copy group ino v = refl
