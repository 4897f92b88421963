use Rattle.std.proofs.Common.{refl}
use Rattle.clap.proofs.OnLiterals.{clap_on_literals}
use Rattle.auditor_top.specs.Words.{command_of}
use Rattle.auditor_top.proofs.PlainWords.{batch_is, batch_in_one_is, twin_batch_is, drill_is}
use Rattle.auditor_top.proofs.laws.plain_words.Goals as goal

pub returns : goal.returns
returns c =
    record {
      init = unfold command_of clap_on_literals in refl;
      serve = unfold command_of clap_on_literals in refl;
      twin = unfold command_of clap_on_literals in refl;
      audit = unfold command_of clap_on_literals in refl;
      simulate = unfold command_of clap_on_literals in refl;
      grow = unfold command_of clap_on_literals in refl;
      explain = unfold command_of clap_on_literals in refl;
      compact = unfold command_of clap_on_literals in refl;
      restore = unfold command_of clap_on_literals in refl;
      batch = batch_is;
      batch_in_one_word = batch_in_one_is;
      twin_batch = twin_batch_is;
      drill = drill_is;
    }
