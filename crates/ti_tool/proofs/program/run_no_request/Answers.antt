use Rattle.ti_tool.proofs.program.run_no_request.Goals as goal

pub returns-in-Explanation-clause-ends : goal.returns-in-Explanation-clause-ends
returns-in-Explanation-clause-ends g c = λ left0 left1. rw c.in-Explanation.is (c.run_explanation.ensures.ends left0 left1)
