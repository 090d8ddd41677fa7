-- What a site notes of a version that it has opened to read is what was granted.
use Rattle.std.proofs.Common.{◌≡◌, ℕ, true, false, List, Option, Some, refl, sym, ◌∙◌, ap, subst}
use Rattle.std.specs.Prelude.{length}
use Rattle.role_steps.proofs.of_plain_facts.Tests.{true_false}
use Rattle.locus_ids.specs.declared.config.Config.{Config}
use Rattle.locus_ids.specs.declared.ids.FileId.{FileId}
use Rattle.locus_ids.specs.declared.ids.Kind.{Kind}
use Rattle.locus_ids.specs.declared.ids.Mode.{Mode}
use Rattle.locus_ids.specs.declared.ids.Mode.TheVariants as mode
use Rattle.locus_ids.specs.declared.ids.Stamp.{Stamp}
use Rattle.locus_ids.specs.declared.sites.Sites.{Sites}
use Rattle.commit_graph.specs.Versions.{content_of}
use Rattle.trace_book.specs.declared.call.OpenMode.{OpenMode}
use Rattle.trace_book.specs.declared.call.OpenMode.TheVariants as opens
use Rattle.call_rules.specs.declared.want.Want.{Want}
use Rattle.call_rules.specs.declared.want.Want.TheVariants as want
use Rattle.wire_messages.specs.declared.body.Opening.{Opening}
use Rattle.wire_messages.specs.declared.body.Opening.TheVariants as how
use Rattle.role_steps.specs.Opens.{stamp_or_none}
use Rattle.role_steps.specs.Requests.{made_for, opening_of}
use Rattle.role_steps.specs.Using.{version_read}
use Rattle.role_steps.specs.declared.users.Asking.TheVariants as asking
use Rattle.tree_laws.specs.of_the_run.Worlds.{Line}
use Rattle.tree_model.specs.Histories.{history}
use Rattle.tree_laws.specs.of_lawful_trace.TreeRows.{is_open_of}
use Rattle.tree_laws.specs.Instances.{IsOpening, Stands}
use Rattle.tree_laws.specs.Packets.{HasSize}
use Rattle.tree_laws.specs.Printed.{entries}
use Rattle.tree_laws.specs.Users.{ReadsFact}
use Rattle.tree_laws.proofs.Orders.Standing.{same_file_eq}

other_write : how.Read ≡ how.Write → ⊥
other_write e = cc

other_resolve : (site : ℕ) → how.Read ≡ how.Resolve site → ⊥
other_resolve site e = cc

other_mend : how.Read ≡ how.Mend → ⊥
other_mend e = cc

other_make : (set : Sites) (kind : Kind) → how.Read ≡ how.Make set kind → ⊥
other_make set kind e = cc

-- an open to read asks so
reads_by : (m : Mode) (f a : FileId) (om : OpenMode) → is_open_of m f (want.Open a om) ≡ true → how.Read ≡ opening_of om → (m ≡ mode.Read) × (a ≡ f)
reads_by m f a opens.Write e o = absurd (other_write o)
reads_by m f a (opens.Resolve site) e o = absurd (other_resolve site o)
reads_by mode.Read f a opens.Read e o = (refl, same_file_eq a f e)
reads_by mode.Read f a opens.Steady e o = (refl, same_file_eq a f e)
reads_by mode.Write f a opens.Read e o = absurd (true_false (sym e))
reads_by mode.Write f a opens.Steady e o = absurd (true_false (sym e))
reads_by mode.Resolve f a opens.Read e o = absurd (true_false (sym e))
reads_by mode.Resolve f a opens.Steady e o = absurd (true_false (sym e))
reads_by mode.Mend f a opens.Read e o = absurd (true_false (sym e))
reads_by mode.Mend f a opens.Steady e o = absurd (true_false (sym e))
reads_by mode.Make f a opens.Read e o = absurd (true_false (sym e))
reads_by mode.Make f a opens.Steady e o = absurd (true_false (sym e))

reads_so : (c : Config) (m : Mode) (f g : FileId) (w : Want) → is_open_of m f w ≡ true → IsOpening c w g how.Read → (m ≡ mode.Read) × (f ≡ g)
reads_so c m f g (want.Open a om) e o = (let k : (m ≡ mode.Read) × (a ≡ f) = reads_by m f a om e o.1 in (k.0, sym (o.0 ∙ k.1)))
reads_so c m f g (want.OpenToMend a) e o = absurd (other_mend o.1)
reads_so c m f g (want.Make group kind sites) e o = absurd (other_make (made_for c group sites) kind o.2)
reads_so c m f g (want.Look a what) e o = absurd o
reads_so c m f g (want.Do i op) e o = absurd o
reads_so c m f g (want.Close i) e o = absurd o
reads_so c m f g (want.Give r) e o = absurd o
reads_so c m f g want.Never e o = absurd o

module _ (c : Config) (t : List Line) (m : Mode) (f g : FileId) (stamp : Option Stamp) (size serial : ℕ) (told : Stamp) (w : Want) (told_is : told ≡ stamp_or_none stamp) (sized : HasSize c t f m stamp size) (asked : is_open_of m f w ≡ true) where
  noted_read : IsOpening c w g how.Read → ReadsFact c t m f stamp (version_read size told (asking.Open serial g how.Read))
  noted_read o = record {
    mode_is = k.0;
    file_is = k.1;
    stamp_is = read.1 ∙ ap Some (sym same);
    stands = subst (λ (y : FileId). Stands c t y told) k.1 (subst (Stands c t f) (sym same) read.2);
    size_is = ap (λ (y : FileId). length (content_of (history c (entries t)) y told)) (sym k.1) ∙ (ap (λ (s : Stamp). length (content_of (history c (entries t)) f s)) same ∙ read.3);
  }
    where
      k : (m ≡ mode.Read) × (f ≡ g)
      k = reads_so c m f g w asked o

      read : HasSize c t f mode.Read stamp size
      read = subst (λ (y : Mode). HasSize c t f y stamp size) k.0 sized

      same : told ≡ read.0
      same = told_is ∙ ap stamp_or_none read.1

  pub noted_so : (it : Opening) → IsOpening c w g it → ReadsFact c t m f stamp (version_read size told (asking.Open serial g it))
  noted_so how.Read o = noted_read o
  noted_so how.Write o = tt
  noted_so (how.Resolve site) o = tt
  noted_so how.Mend o = tt
  noted_so (how.Make set kind) o = tt
