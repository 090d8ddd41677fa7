-- What a line needs of the lines before it so that nothing but memory can be wanting.
use Rattle.std.proofs.Common.{◌≡◌, ℕ, ◌+◌, ◌≤◌, List, [], ◌∷◌, ◌++◌, length, Result, Err, refl, sym, ap, subst, ◌∙◌, append_assoc, arith}
use Rattle.std.specs.Result.{IsErrAnd}
use Rattle.locus_ids.specs.declared.config.Config.{Config}
use Rattle.schedule_lines.specs.Cluster.{config_of, with_line}
use Rattle.schedule_lines.specs.Schedule.{AreInOrder}
use Rattle.schedule_lines.specs.declared.line.Line.{Line}
use Rattle.schedule_lines.specs.declared.line.ScheduleLine.{ScheduleLine}
use Rattle.schedule_lines.specs.declared.line.ScheduleLine.TheVariants.{Event}
use Rattle.line_text.specs.ReadSoFar.{ReadsNext}
use Rattle.line_text.specs.declared.schedule_reader.LineRead.TheVariants as told
use Rattle.line_text.specs.declared.schedule_reader.ScheduleReader.{ScheduleReader}
use Rattle.generated_load.specs.Pieces.{events_of}
use Rattle.world.specs.of_row_laws.Voids.{LinesFit}
use Rattle.world.proofs.of_row_laws.Fitting.{schedule_fits}
use Rattle.world.specs.of_tree_laws.Orders.Joining.{PacksAreOfSites}
use Rattle.world.proofs.of_rest_laws.Packs.{schedule_packs}
use Rattle.world.proofs.of_rest_laws.StoreStepFirst.{four_groups}
use Rattle.input_order_laws.proofs.Order.{first_in_order, more_in_order}
use Rattle.world.specs.declared.fault.WorldFault.{WorldFault}
use Rattle.schedule_run.specs.declared.fault.RunFault.{RunFault}
use Rattle.schedule_run.specs.declared.fault.RunFault.TheVariants as run
use Rattle.schedule_run.specs.declared.load_fault.LoadFault.{LoadFault}
use Rattle.schedule_run.specs.declared.load_fault.LoadFault.TheVariants as load
use Rattle.schedule_run.proofs.Doing.{events_more}
use Rattle.schedule_run.proofs.Growing.{config_more}

-- a fault of the world is made to no other one
pub world_of : {A : Type 0} (fault f : WorldFault) (result : Result A RunFault) → IsErrAnd result (λ made. made ≡ run.World fault) → result ≡ Err (run.World f) → fault ≡ f
world_of {A} fault f result h e = let g : run.World f ≡ run.World fault = subst (λ (r : Result A RunFault). IsErrAnd r (λ made. made ≡ run.World fault)) e h in cc

-- lines in order are in range of their cluster, whose packs are of its sites and four at most
pub in_range : (lines : List ScheduleLine) (e : Line) → AreInOrder (lines ++ Event e ∷ []) → LinesFit (config_of lines) (lines ++ Event e ∷ [])
in_range lines e o = subst (λ (c : Config). LinesFit c (lines ++ Event e ∷ [])) (config_more lines (Event e)) (schedule_fits (lines ++ Event e ∷ []) o)

pub of_sites : (lines : List ScheduleLine) (e : Line) → AreInOrder (lines ++ Event e ∷ []) → PacksAreOfSites (config_of lines)
of_sites lines e o = subst PacksAreOfSites (config_more lines (Event e)) (schedule_packs (lines ++ Event e ∷ []) o)

pub few_packs : (lines : List ScheduleLine) → length (config_of lines).packs ≤ 4
few_packs lines = omega (arith, four_groups lines)

-- an event line that was read
pub event_order : (lines : List ScheduleLine) (bytes : List ℕ) (e : Line) (after : ScheduleReader) → AreInOrder lines → ReadsNext lines bytes (told.Event e) after → AreInOrder (lines ++ Event e ∷ [])
event_order lines bytes e after o n = subst (λ (l : ScheduleLine). AreInOrder (lines ++ l ∷ [])) n.tells (more_in_order lines n.line o n.reads.1)

pub event_config : (lines : List ScheduleLine) (bytes : List ℕ) (e : Line) (after : ScheduleReader) → ReadsNext lines bytes (told.Event e) after → after.header.config ≡ config_of lines
event_config lines bytes e after n = ap (λ (k : ScheduleReader). k.header.config) n.next ∙ (config_more lines n.line ∙ ap (with_line (config_of lines)) n.tells)

events_both : (es fs : List Line) → events_of (es ++ fs) ≡ events_of es ++ events_of fs
events_both [] fs = refl
events_both (e ∷ es) fs = ap (λ (ls : List ScheduleLine). Event e ∷ ls) (events_both es fs)

-- the first ones of some event lines
pub events_order : (lines : List ScheduleLine) (es after all : List Line) (e : Line) → (es ++ e ∷ []) ++ after ≡ all → AreInOrder (lines ++ events_of all) → AreInOrder ((lines ++ events_of es) ++ Event e ∷ [])
events_order lines es after all e ea o =
    let a = subst (λ (x : List Line). AreInOrder (lines ++ events_of x)) (sym ea) o in
    let b = subst (λ (x : List ScheduleLine). AreInOrder (lines ++ x)) (events_both (es ++ e ∷ []) after) a in
    let d = subst AreInOrder (sym (append_assoc lines (events_of (es ++ e ∷ [])) (events_of after))) b in
    subst AreInOrder (sym (events_more lines es e)) (first_in_order (lines ++ events_of (es ++ e ∷ [])) (events_of after) d)

-- the events of a load that come next
pub next_order : (lines done next rest left all now : List ScheduleLine) → done ++ left ≡ all → left ≡ next ++ rest → now ≡ next → AreInOrder (lines ++ all) → AreInOrder ((lines ++ done) ++ now)
next_order lines done next rest left all now ea el en o =
    let a = subst (λ (x : List ScheduleLine). AreInOrder (lines ++ x)) (sym ea) o in
    let b = subst (λ (x : List ScheduleLine). AreInOrder (lines ++ (done ++ x))) (el ∙ ap (λ (x : List ScheduleLine). x ++ rest) (sym en)) a in
    let d = subst AreInOrder (sym (append_assoc lines done (now ++ rest))) b in
    first_in_order ((lines ++ done) ++ now) rest (subst AreInOrder (sym (append_assoc (lines ++ done) now rest)) d)

-- a fault of the world is made to no other one of a load
pub load_of : {A : Type 0} (fault f : WorldFault) (result : Result A LoadFault) → IsErrAnd result (λ made. made ≡ load.World fault) → result ≡ Err (load.World f) → fault ≡ f
load_of {A} fault f result h e = let g : load.World f ≡ load.World fault = subst (λ (r : Result A LoadFault). IsErrAnd r (λ made. made ≡ load.World fault)) e h in cc

-- a fault that is given on
pub same_fault : {A : Type 0} (fault f : LoadFault) (result : Result A LoadFault) → IsErrAnd result (λ made. made ≡ fault) → result ≡ Err f → fault ≡ f
same_fault {A} fault f result h e = sym (subst (λ (r : Result A LoadFault). IsErrAnd r (λ made. made ≡ fault)) e h)
