-- The exit codes, each as the README has it.
use Rattle.std.specs.Prelude.{◌≡◌, refl, [], ◌∷◌}
use Rattle.input_run.specs.declared.status.Status.TheVariants as status
use Rattle.input_run.specs.declared.status.Limited.TheVariants.{Trace}
use Rattle.input_run.specs.Codes.{code_of}

pub each_status_has_its_code : code_of status.Ok ∷ code_of status.BadWords ∷ code_of (status.BadLine 9) ∷ code_of status.ReadFault ∷ code_of status.WriteFault ∷ code_of status.NoMemory ∷ code_of (status.Limit Trace) ∷ [] ≡ 0 ∷ 2 ∷ 3 ∷ 4 ∷ 5 ∷ 6 ∷ 7 ∷ []
each_status_has_its_code = refl
