-- Whether some grant has a name, by the place of its key.
use Rattle.std.proofs.Common.{◌≡◌, List, map, sym, ap, ◌∙◌}
use Rattle.std.specs.List.{list_any}
use Rattle.std.specs.Option.{is_some}
use Rattle.locus_ids.specs.declared.ids.Serial.{Serial}
use Rattle.locus_ids.specs.declared.ids.FileId.{FileId}
use Rattle.tree_model.specs.declared.instance.Granted.{Granted}
use Rattle.trace_book.specs.Same.{same_serial}
use Rattle.commit_graph.specs.Versions.{same_file}
use Rattle.key_places.specs.declared.key.Key.{Key}
use Rattle.key_places.specs.Keys.{serial_key, file_key}
use Rattle.key_places.specs.Places.{place_of}
use Rattle.key_places.proofs.Names.{serial_names, file_names}
use Rattle.key_places.proofs.Rows.{place_any}
use Rattle.audit_epochs.specs.Changes.{is_granted, is_taken}

pub granted_by_place : (gs now : List Granted) (keys : List Key) (i : Serial) → gs ≡ now → keys ≡ map (λ (g : Granted). serial_key g.inst) gs → is_some (place_of (serial_key i) keys) ≡ is_granted now i
granted_by_place gs now keys i view e =
    ap (λ ks. is_some (place_of (serial_key i) ks)) e
    ∙ (sym (place_any (λ (g : Granted). serial_key g.inst) (serial_key i) (λ (g : Granted). same_serial g.inst i) (λ g. sym (serial_names g.inst i)) gs)
    ∙ ap (list_any (λ (g : Granted). same_serial g.inst i)) view)

pub taken_by_place : (gs now : List Granted) (keys : List Key) (f : FileId) → gs ≡ now → keys ≡ map (λ (g : Granted). file_key g.file) gs → is_some (place_of (file_key f) keys) ≡ is_taken now f
taken_by_place gs now keys f view e =
    ap (λ ks. is_some (place_of (file_key f) ks)) e
    ∙ (sym (place_any (λ (g : Granted). file_key g.file) (file_key f) (λ (g : Granted). same_file g.file f) (λ g. sym (file_names g.file f)) gs)
    ∙ ap (list_any (λ (g : Granted). same_file g.file f)) view)
