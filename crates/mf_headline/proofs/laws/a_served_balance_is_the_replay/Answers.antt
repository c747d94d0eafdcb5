use Rattle.std.proofs.Common.{take, ap, ◌∙◌}
use Rattle.mf_model.specs.Run.{answer, last}
use Rattle.mf_wire_messages.proofs.MessageLemmas.{one_message}
use Rattle.mf_wire.specs.Serving.{call_of_message, shown_response}
use Rattle.mf_headline.proofs.Places.{exchanged_at}
use Rattle.mf_headline.proofs.Told.{told_replay}
use Rattle.mf_headline.proofs.laws.a_served_balance_is_the_replay.Goals as goal

pub returns : goal.returns
returns g c = λ i told exchanges old new served place exchange message to_head loan asked at is_message is reads.
    let it = exchanged_at told exchanges served.run served.to_heads i place exchange served.calls served.replied at in
    let same = one_message exchange.bytes it.of_message.0 message it.to_head to_head it.of_message.1 is_message in
    let before = take place served.run in (
      answer it.line_is (last before i),
      told_replay loan asked reads before i it.line_is
          (ap (λ c. c.request) (it.of_message.2 ∙ ap (call_of_message told) same.0) ∙ is),
      it.said ∙ ap (λ t. shown_response t (answer it.line_is (last before i))) same.1,
    )
