-- The step from the version that a site has to one that it commits.
use Rattle.std.proofs.Common.{◌≡◌, ℕ, List, Option, None, Some, refl, sym, ap, ◌∙◌}
use Rattle.std.specs.Option.{option_map}
use Rattle.locus_ids.specs.declared.ids.Stamp.{Stamp}
use Rattle.file_content.specs.Pages.{ascending}
use Rattle.wire_messages.specs.declared.body.ReportedCopy.{ReportedCopy}
use Rattle.role_steps.specs.Storage.{reported, stamp_of, step_to}
use Rattle.role_steps.specs.declared.copies.FileCopy.{FileCopy}
use Rattle.role_steps.specs.declared.copies.Step.{Step}

head_stamp : Option ReportedCopy → Option Stamp
head_stamp None = None
head_stamp (Some c) = Some c.stamp

of_head : (held : Option FileCopy) → head_stamp (option_map reported held) ≡ stamp_of held
unfolding head_stamp
of_head None = refl
of_head (Some x) = refl

pub some_before : (head : Option ReportedCopy) (c : ReportedCopy) (held : Option FileCopy) → head ≡ Some c → head ≡ option_map reported held → Some c.stamp ≡ stamp_of held
unfolding head_stamp
some_before head c held is of = ap head_stamp (sym is ∙ of) ∙ of_head held

pub none_before : (head : Option ReportedCopy) (held : Option FileCopy) → head ≡ None → head ≡ option_map reported held → ◌≡◌ {A = Option Stamp} None (stamp_of held)
unfolding head_stamp
none_before head held is of = ap head_stamp (sym is ∙ of) ∙ of_head held

pub step_so : (before : Option Stamp) (stamp : Stamp) (pages given changed : List ℕ) (x : FileCopy) (held : Option FileCopy) → before ≡ stamp_of held → x.stamp ≡ stamp → pages ≡ ascending given → given ≡ changed
    → ◌≡◌ {A = Step} (record { before = before; after = stamp; pages = pages }) (step_to x (ascending changed) held)
step_so before stamp pages given changed x held b s p g =
    ap (λ (o : Option Stamp). record { before = o; after = stamp; pages = pages }) b
    ∙ ap (λ (t : Stamp). record { before = stamp_of held; after = t; pages = pages }) (sym s)
    ∙ ap (λ (ps : List ℕ). record { before = stamp_of held; after = x.stamp; pages = ps }) (p ∙ ap (λ (ps : List ℕ). ascending ps) g)
