-- A frame that is made as its value.
use Rattle.ether_make.specs.declared.frame.Frame.{Frame}
use Rattle.ether_make.specs.declared.template.Template.{Template}
use Rattle.ether_make.specs.Frames.{FrameValue}
use Rattle.ether_make.specs.SlotViews.{found_view}
use Rattle.ether_make.specs.Templates.{TemplateValue}

abbrev pub frame_view : Frame → FrameValue
frame_view f = record { link = f.link; time = f.time; packet = f.bytes.items }

-- .. and what an object has
abbrev pub template_view : Template → TemplateValue
template_view t = record { frame = frame_view t.frame; found = found_view t.found }
