-- What components find in directories is in range.
use Rattle.std.proofs.Common.{◌≡◌, ℕ, Bool, true, ◌&&◌, List, [], ◌∷◌, filter, Some, refl}
use Rattle.std.specs.List.{find, list_all}
use Rattle.dir_format.specs.Contents.{is_entry}
use Rattle.dir_format.specs.Lookups.{is_meant, look_among, lookup}
use Rattle.dir_format.specs.declared.entry.Entry.{Entry}
use Rattle.dir_format.specs.declared.looking.LookResult.{LookResult}
use Rattle.dir_format.specs.declared.looking.LookResult.TheVariants as found
use Rattle.record_reading.specs.Ranges.{is_inode}
use Rattle.past_laws.proofs.Alls.{all_filtered, all_first, all_found}
use Rattle.past_laws.proofs.Names.{both}
use Rattle.text_laws.proofs.TreeTexts.Contents.{entry_is}

abbrev pub is_result : LookResult → Bool
is_result (found.Found ino kind) = is_inode ino
is_result found.Absent = true
is_result (found.Ambiguous a b) = is_inode a && is_inode b

pub find_inode : (test : Entry → Bool) (ds : List Entry) (d : Entry) → list_all is_entry ds ≡ true → find test ds ≡ Some d → is_inode d.ino ≡ true
find_inode test ds d h f = (entry_is d (all_found is_entry test ds d f h)).ino

among_text : (ds : List Entry) → list_all is_entry ds ≡ true → is_result (look_among ds) ≡ true
among_text [] h = refl
among_text (d ∷ []) h = (entry_is d (all_first is_entry d [] h).0).ino
among_text (d ∷ other ∷ others) h =
    let parts = all_first is_entry d (other ∷ others) h in
    both (is_inode d.ino) (is_inode other.ino) (entry_is d parts.0).ino (entry_is other (all_first is_entry other others parts.1).0).ino

pub lookup_text : (ds : List Entry) (component : List ℕ) → list_all is_entry ds ≡ true → is_result (lookup ds component) ≡ true
lookup_text ds component h = among_text (filter (is_meant component) ds) (all_filtered is_entry (is_meant component) ds h)
