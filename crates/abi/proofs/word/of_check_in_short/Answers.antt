-- `abi::word::of_check_in_short` meets its contract: case by case.
use Rattle.laws.specs.Verdict.{◌gives◌, ◌then◌}
use Rattle.floor.specs.Answers.{verdict_of}
use Rattle.abi.specs.Word.{word_of, of_number, map_outcome}
use Rattle.abi.proofs.word.of_check_in_short.Goals as goal

pub returns-in-Ok : goal.returns-in-Ok
unfolding of_number map_outcome verdict_of word_of ◌gives◌ ◌then◌
returns-in-Ok c = cc

pub returns-in-Err : goal.returns-in-Err
unfolding of_number map_outcome verdict_of word_of ◌gives◌ ◌then◌
returns-in-Err c = cc
