-- The command of some arguments.
use Rattle.std.proofs.Common.{rules, ◌≡◌, true, false, [], ◌∷◌, Some, None, codes}
use Rattle.clap.proofs.OnLiterals.{clap_on_literals}
use Rattle.auditor_top.specs.declared.words.Command.TheVariants.{Serve, Drill}
use Rattle.auditor_top.specs.Words.{command_of}

-- each of these is a command, or none
record Samples : Type 0 where
  a_batch_in_one_word : command_of (codes "serve" ∷ codes "--batch=2" ∷ []) ≡ Some (Serve 2 false)
  a_batch_with_a_zero : command_of (codes "serve" ∷ codes "--batch" ∷ codes "02" ∷ []) ≡ Some (Serve 2 false)
  too_large_a_batch : command_of (codes "serve" ∷ codes "--batch" ∷ codes "65" ∷ []) ≡ None
  two_batches : command_of (codes "serve" ∷ codes "--batch" ∷ codes "2" ∷ codes "--batch" ∷ codes "3" ∷ []) ≡ None
  the_batch_first : command_of (codes "--batch" ∷ codes "2" ∷ codes "serve" ∷ []) ≡ Some (Serve 2 false)
  after_two_dashes : command_of (codes "--" ∷ codes "serve" ∷ []) ≡ Some (Serve 1 false)
  the_twin_first : command_of (codes "--twin" ∷ codes "serve" ∷ []) ≡ Some (Serve 1 true)
  a_twin_after_a_batch : command_of (codes "serve" ∷ codes "--batch" ∷ codes "2" ∷ codes "--twin" ∷ []) ≡ Some (Serve 2 true)
  init_with_a_twin : command_of (codes "init" ∷ codes "--twin" ∷ []) ≡ None
  restore_with_a_twin : command_of (codes "restore" ∷ codes "--twin" ∷ []) ≡ None
  restore_with_a_number : command_of (codes "restore" ∷ codes "3" ∷ []) ≡ None
  a_number_for_serve : command_of (codes "serve" ∷ codes "3" ∷ []) ≡ None
  init_with_a_batch : command_of (codes "init" ∷ codes "--batch" ∷ codes "2" ∷ []) ≡ None
  simulate_with_a_number : command_of (codes "simulate" ∷ codes "3" ∷ []) ≡ None
  simulate_with_a_batch : command_of (codes "simulate" ∷ codes "--batch" ∷ codes "2" ∷ []) ≡ None
  a_drill : command_of (codes "drill" ∷ codes "0007" ∷ []) ≡ Some (Drill 7)
  no_number_for_a_drill : command_of (codes "drill" ∷ []) ≡ None
  too_large_a_drill : command_of (codes "drill" ∷ codes "4294967296" ∷ []) ≡ None
  a_drill_with_a_batch : command_of (codes "drill" ∷ codes "7" ∷ codes "--batch" ∷ codes "2" ∷ []) ≡ None
  help_is_none : command_of (codes "--help" ∷ []) ≡ None
  an_empty_word : command_of (codes "" ∷ []) ≡ None
  no_word : command_of [] ≡ None

samples : Samples
unfolding command_of clap_on_literals
samples = search rules
