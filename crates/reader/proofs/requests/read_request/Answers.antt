-- `requests::read_request` meets its contract, by the laws of Asking and RoomLeft.
use mathlib.Core.Path.{sym, ◌∙◌}
use Rattle.equivalence.specs.Lists.{every}
use Rattle.numberreader.specs.Reading.{ascii}
use Rattle.tablereader.specs.Tables.{table, pair}
use Rattle.reader.specs.Lines.{request}
use Rattle.reader.specs.declared.requests.Asked.TheVariants.{Decompose}
use Rattle.reader.proofs.Asking.{word_stands, word_missing, word_alone, request_unstored, request_missing}
use Rattle.tablereader.proofs.RoomLeft.{room_behind}
use Rattle.tablereader.proofs.Storing.{faulty_nothing}
use Rattle.numberreader.proofs.Words.{begins_within}
use borrow.Author.Rules.{rules}
use Rattle.reader.proofs.requests.read_request.Goals as goal

pub read_asking-requires-clause-room_for_text : goal.read_asking-requires-clause-room_for_text
unfolding ascii every
read_asking-requires-clause-room_for_text c = search (room_behind (ascii "[generate") tt)

pub returns-then-begins_with : goal.returns-then-begins_with
unfolding request ascii pair table
returns-then-begins_with c = search word_stands

pub read_asking-requires-then-begins_with-2-clause-room_for_text : goal.read_asking-requires-then-begins_with-2-clause-room_for_text
unfolding ascii every
read_asking-requires-then-begins_with-2-clause-room_for_text c = let k = c.begins_with-2 in
    room_behind (ascii "[contained") tt k.result k.ensures c.if-begins_with-2.true (search rules)

pub returns-then-begins_with-2 : goal.returns-then-begins_with-2
unfolding request ascii pair table
returns-then-begins_with-2 c = search (word_stands, word_missing)

pub read_separate-requires : goal.read_separate-requires
unfolding ascii every
read_separate-requires c = let k = c.begins_with-3 in
    begins_within _ (ascii "[separate") _ tt (search rules) (sym k.ensures ∙ c.if-begins_with-3.true)

pub returns-then-begins_with-3 : goal.returns-then-begins_with-3
unfolding request ascii every
returns-then-begins_with-3 c = let k = c.begins_with-3 in
    let l = begins_within _ (ascii "[separate") _ tt (search rules) (sym k.ensures ∙ c.if-begins_with-3.true) in
    let s = request_unstored _ _ c.args.room.now c.args.from.put _ c.requires.start l _ c.read_separate.ensures in
    search (word_stands, word_missing)

pub returns-then-begins_with-4 : goal.returns-then-begins_with-4
unfolding request ascii every
returns-then-begins_with-4 c = search (word_stands, word_missing, word_alone (ascii "[decompose]\n") tt Decompose)

pub read_asking-requires-then-begins_with-5-clause-room_for_text : goal.read_asking-requires-then-begins_with-5-clause-room_for_text
unfolding ascii every
read_asking-requires-then-begins_with-5-clause-room_for_text c = let k = c.begins_with-5 in
    room_behind (ascii "[quotient") tt k.result k.ensures c.if-begins_with-5.true (search rules)

pub returns-then-begins_with-5 : goal.returns-then-begins_with-5
unfolding request ascii pair table
returns-then-begins_with-5 c = search (word_stands, word_missing)

pub returns : goal.returns
unfolding ascii
returns c =
    faulty_nothing _ _ _ _ _ c.requires
    (request_missing _ _ (sym c.begins_with.ensures ∙ c.if-begins_with.false) (sym c.begins_with-2.ensures ∙ c.if-begins_with-2.false)
    (sym c.begins_with-3.ensures ∙ c.if-begins_with-3.false) (sym c.begins_with-4.ensures ∙ c.if-begins_with-4.false)
    (sym c.begins_with-5.ensures ∙ c.if-begins_with-5.false))
